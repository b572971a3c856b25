-- The compression function.
pub mod Compression
