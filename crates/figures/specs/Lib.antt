-- What is asked of a tally, and the laws of the loops over it.
pub mod Small
pub mod Loops
