-- Part of a list filled with zeros.
pub mod Zeros
