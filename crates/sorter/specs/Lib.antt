-- The calls of a session, and that every list of calls is the model's.
pub mod Chain
pub mod FlushWork
pub mod FinalWork
pub mod Finishing
