-- The laws of a passage letter taken apart.
pub mod Filled
pub mod Places
pub mod Taking
pub mod Numbered
pub mod Entries
pub mod Front
pub mod Fits
pub mod Reading
pub mod Apart
pub mod Only
