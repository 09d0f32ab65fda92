-- What counting asks, and the laws of the tally.
pub mod Counting
pub mod Tallied
