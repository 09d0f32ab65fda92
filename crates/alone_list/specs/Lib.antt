-- Requests to the guide alone as numbers, the answers to them, and what running a list of them promises.
pub mod Put
pub mod Told
pub mod Requests
pub mod Replay
pub mod ShutOut
pub mod Blocks
pub mod Forms
pub mod Running
