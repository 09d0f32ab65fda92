-- A set place.
pub mod Marking
