-- Text appended to bytes: what a writer promises, decimals, and words with their numbers.
pub mod Wrote
pub mod Decimal
pub mod Lines
pub mod Written
