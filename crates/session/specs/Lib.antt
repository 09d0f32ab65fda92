-- The session and its storage: what they stand for (Storage, Slices, After, Rep), what a host finds in them (Shows, Showing, Poll), one placing
-- (Finding, Placed, Placing, Rows, Outputs, PlaceOne), one turn of the cascade (PlaceNext) and the whole of it (Cascade, Settle), and what is
-- noted after it (Noting, Recording).
pub mod Storage
pub mod Slices
pub mod After
pub mod Rep
pub mod Shows
pub mod Showing
pub mod Poll
pub mod Parts
pub mod Rows
pub mod Outputs
pub mod Placed
pub mod Placing
pub mod PlaceNext
pub mod PlaceOne
pub mod Finding
pub mod Cascade
pub mod Settle
pub mod Noting
pub mod Recording
