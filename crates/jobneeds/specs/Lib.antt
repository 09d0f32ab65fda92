-- What a job needs: what the promises cite, and the laws of reading it.
pub mod Told
pub mod Layout
pub mod Laws
