-- The proofs of the claims in specs/Claims: `same_lists` and `same_runs` (Lists), over Guides and Models, and `same_jobs` (Jobs), over
-- Listings.
pub mod Guides
pub mod Models
pub mod Lists
pub mod Listings
pub mod Jobs
