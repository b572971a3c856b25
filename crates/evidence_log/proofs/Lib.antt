-- Laws of the log.
mod Done
pub mod Only
pub mod Told
pub mod Grown
pub mod Appends
pub mod Hashed
pub mod Local
