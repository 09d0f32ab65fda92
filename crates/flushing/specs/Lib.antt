-- What a flush does to a session and its storage (Released), and that it fits (Fitting).
pub mod Released
pub mod Fitting
