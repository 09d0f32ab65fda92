-- The session of the ascending profile: its storage, the model for which both stand, what a host finds in them, and what a call promises.
pub mod Slices
pub mod After
pub mod Rep
pub mod Shows
pub mod Showing
pub mod Promise
