-- The text of a job below its lines: what the reading functions promise, and the laws of their loops.
pub mod Text
pub mod Pieces
pub mod Words
pub mod LineEnds
pub mod Numbers
pub mod Lists
