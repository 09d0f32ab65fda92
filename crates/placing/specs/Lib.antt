-- The guide and its storage between calls: what stands, what a call leaves alone, and what a step leaves.
pub mod GuideFrame
pub mod Stands
pub mod Done
pub mod Flush
pub mod Opened
pub mod Slices
