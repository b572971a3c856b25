-- The definitions that the contracts cite.
pub mod Limits
pub mod Numbers
pub mod Slices
pub mod Writers
pub mod Lent
