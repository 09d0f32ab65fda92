-- The checks of set and add under the ascending profile over what the session and its storage hold, and the laws by which their proofs go.
pub mod Parts
pub mod Ascend
pub mod Laws
