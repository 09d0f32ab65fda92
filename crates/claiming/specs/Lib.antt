-- What flagging an add's outputs asks and promises, and the laws by which its proofs go.
pub mod Promises
pub mod Claiming
