-- What the guide's core asks and promises, and the laws that join its pieces.
pub mod Ready
pub mod Chosen
pub mod Pushes
pub mod Flushed
pub mod Fresh
