-- The host's call: what it promises, and the laws of it.
pub mod Called
pub mod Laws
