-- The order in parts, and its loops.
mod Limits
pub mod Cutting
mod Owned
pub mod Parts
