-- The answer to a job: what it promises, and the laws of it.
pub mod Reply
pub mod Laws
