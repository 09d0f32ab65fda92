-- A job on standard input: what reading it promises.
pub mod Input
