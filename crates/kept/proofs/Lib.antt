-- The laws of what is kept.
pub mod Kept
pub mod Handed
pub mod Writers
