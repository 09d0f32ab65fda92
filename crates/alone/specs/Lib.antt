-- The guide alone: what its state and storage stand for, what each call promises, and the claim about every list of calls.
pub mod Reply
pub mod Held
pub mod Served
pub mod Pushing
pub mod Flushing
pub mod Opening
pub mod Chain
