-- Recorded runs of the Rust, computed from the definitions of `rules`.
pub mod Shown
pub mod Runs1
pub mod Runs2
pub mod Runs3
pub mod Runs4
pub mod Runs5
