-- The lane and the lists of an accepted registration.
pub mod Entering
