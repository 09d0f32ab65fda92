-- Delayed registrations in storage: how they are read, what is stored, laws of the model's lists, laws of chains, and what each function does to it.
pub mod Reading
pub mod Delayed
pub mod Queue
pub mod Chains
pub mod Loops
pub mod Keeps
pub mod Unique
