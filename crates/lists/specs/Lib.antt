-- Lists of places: how they lie in the pool, the loops over them, and what the checks of a call's lists tell.
pub mod Part
pub mod Scan
pub mod Arguments
