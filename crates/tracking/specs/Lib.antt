-- Marks and locations: what the functions promise, their loops' laws, and how storage stands for the model's places.
pub mod Tracking
pub mod Loops
pub mod Places
