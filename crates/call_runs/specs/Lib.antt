-- Sets and adds of an encoded list, made one after another: one call, the loop, and the cascade in it.
pub mod Made
pub mod Making
pub mod Continuing
pub mod Cascading
pub mod Naming
