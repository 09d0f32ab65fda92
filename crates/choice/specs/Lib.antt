-- What the choice of a span is held to, beside the definitions of `rules`.
pub mod Search
pub mod Chosen
