-- One turn of a job: a call put down as numbers, what the turn promises, and the laws of it.
pub mod Ends
pub mod Steps
pub mod Putting
pub mod Turned
pub mod Laws
