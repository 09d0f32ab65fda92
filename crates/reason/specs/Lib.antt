-- What the exported calls promise, and the laws of it.
pub mod Exported
pub mod Telling
