-- The lines of a job: what reading one promises, and the laws of it.
pub mod Lines
pub mod Keys
pub mod Reads
