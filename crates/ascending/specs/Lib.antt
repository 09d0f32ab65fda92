-- The ascending profile (document 02, M-106): the claims stand in Claims and are proved by `ascends` (Proof).
pub mod Claims
pub mod Same
pub mod Lists
pub mod Lowest
pub mod Never
pub mod Once
pub mod Proof
