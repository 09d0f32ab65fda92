-- What the guide's storage stands for, and what putting an entry and releasing a span do to it.
pub mod View
pub mod Rows
pub mod Order
pub mod Held
pub mod Moves
pub mod Fit
