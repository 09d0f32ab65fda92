-- An encoded list of calls on a fresh session under the ascending profile: one call of it (Made), how far it is made (Progress), all of it
-- (Running), and what is promised (Replay).
pub mod Made
pub mod Progress
pub mod Replay
pub mod Running
