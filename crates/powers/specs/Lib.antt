-- The largest power of two below a number.
pub mod Largest
