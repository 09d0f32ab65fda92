-- Record rows: how they are filled, and what they then say.
pub mod Filling
pub mod Filled
