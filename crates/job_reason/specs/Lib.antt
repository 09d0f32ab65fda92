-- Why a registration waits after a job: what is promised, and the laws of the answer.
pub mod JobReason
pub mod Explains
pub mod Laws
