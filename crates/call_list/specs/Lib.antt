-- A list of calls replayed on a fresh session.
pub mod Replay
pub mod Progress
pub mod Running
