-- What the exported calls promise, and that what they tell meets it.
pub mod Exported
pub mod Telling
