-- The laws of the definitions.
pub mod Lists
pub mod Numbers
pub mod Parts
pub mod Splices
pub mod Differences
pub mod Places
pub mod Each
pub mod Joined
pub mod Rows
pub mod Writers
pub mod Lent
