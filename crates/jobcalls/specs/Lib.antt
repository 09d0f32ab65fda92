-- The calls of a job: what reading one promises, the laws of it, and what a run makes of what is read.
pub mod Next
pub mod Head
pub mod Rejections
pub mod Told
pub mod Laws
pub mod Runs
