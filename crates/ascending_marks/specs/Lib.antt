-- Runs of places that are stamped, and how repeats are found by marks.
pub mod Runs
pub mod Raised
pub mod Raising
