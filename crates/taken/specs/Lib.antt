-- Which places are taken: where a flag lies, what the flags say, how repeats are found by them, and how places are claimed.
pub mod Flag
pub mod Flags
pub mod Repeats
pub mod Raising
pub mod FlagLaws
pub mod ClaimLaws
