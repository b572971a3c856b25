-- Laws of the digests that a log's nodes give, and of writing them.
pub mod Exact
pub mod Local
mod Putting
mod Whole
