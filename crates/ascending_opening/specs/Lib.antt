-- Opening under the ascending profile: its checks, and the fresh session.
pub mod Refusal
pub mod Opened
pub mod Slices
