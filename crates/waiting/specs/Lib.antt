-- The parts of the waiting storage beside each other, and all of them cleared.
pub mod Apart
pub mod Cleared
