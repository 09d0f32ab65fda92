-- A job run on a session: what it promises, and the laws of it.
pub mod Run
pub mod Arrays
pub mod Laws
