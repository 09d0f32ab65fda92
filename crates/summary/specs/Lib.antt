-- The summary: what the promises cite, and the laws of the exported call.
pub mod Figured
pub mod Layout
pub mod Writing
