-- Calls encoded as numbers: where those of a list end, and how one is put.
pub mod Decode
pub mod Ends
pub mod Put
