-- What a call of a session promises; a set or an add admitted, and what is then left to be placed.
pub mod Promise
pub mod Numbers
pub mod Noting
pub mod Told
pub mod Admitted
pub mod Begun
pub mod Setting
pub mod Adding
pub mod Linking
pub mod AddWork
