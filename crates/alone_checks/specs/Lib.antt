-- The checks of the guide alone by the window's numbers, and how a verdict comes about.
pub mod Numbers
pub mod Verdicts
