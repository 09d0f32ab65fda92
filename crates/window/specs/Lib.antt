-- What the functions on a window are held to, and a location in parts.
pub mod Rotate
pub mod Location
