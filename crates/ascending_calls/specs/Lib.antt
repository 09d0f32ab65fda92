-- The calls of a session under the ascending profile: their numbers, what a set, an add, a flush and a final do, and the claims for those who
-- make them one after the other (Chain).
pub mod Numbers
pub mod Setting
pub mod Adding
pub mod Flushing
pub mod Closing
pub mod Finishing
pub mod Chain
