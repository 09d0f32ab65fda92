-- Why a registration waits, asked of a session: what is asked and promised, and the laws of it.
pub mod Explaining
pub mod Answers
