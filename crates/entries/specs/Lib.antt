-- Entries in flat slices: the definitions, and their laws.
pub mod Entries
pub mod Stored
