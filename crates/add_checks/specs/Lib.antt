-- What the checks of add ask and promise, and the laws by which their proofs go.
pub mod Promises
pub mod ListChecks
pub mod StateChecks
pub mod ListWays
