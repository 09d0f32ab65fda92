-- The listing of a session after final: what writing it promises, and the laws of it.
pub mod Report
pub mod Laws
