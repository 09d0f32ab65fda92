-- Opening: its checks, the parts of a fresh session, and the whole.
pub mod Refusal
pub mod Parts
pub mod Opened
pub mod Slices
pub mod Verdicts
