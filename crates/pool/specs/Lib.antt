-- The lists of accepted registrations in the pool, and the cells that say where each lies and have the lanes.
pub mod Lists
pub mod ListLaws
