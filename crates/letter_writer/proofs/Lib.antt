-- What the proof of the writer needs, and that bytes beyond the size mean nothing.
mod Fills
pub mod Local
