-- The listing from the session's storage: what it is, that it is document 01's, and the laws of writing it.
pub mod Listed
pub mod Lines
pub mod Model
pub mod Floor
