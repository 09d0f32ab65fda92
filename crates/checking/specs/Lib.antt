-- The checks of the four calls over what the session and its storage hold, and the laws of those of set, flush and final.
pub mod Parts
pub mod Laws
