-- Document 01 as definitions, in the paper's order, after its limits, the numbers of its refusals and how texts stand for bytes; and of
-- document 02 what a job needs, why a registration waits, and the ascending profile.
pub mod Limits
pub mod Refusals
pub mod Answer
pub mod Text
pub mod Guide
pub mod Model
pub mod Checks
pub mod Calls
pub mod Alone
pub mod Summary
pub mod Record
pub mod Job
pub mod Needs
pub mod Listing
pub mod Reason
pub mod Encoding
pub mod Ascending
pub mod Placements
pub mod Sessions
pub mod Listings
pub mod Reasons
pub mod Edges
pub mod Ascents
