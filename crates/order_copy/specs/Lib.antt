-- The order as structs beside the flat order: definitions that the promises cite, the laws of the checks and of the copying loop, and what
-- the copying keeps.
pub mod Flat
pub mod Copied
pub mod Checked
pub mod Loop
pub mod Mirror
