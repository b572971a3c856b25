-- Laws of two inputs, of two lists of them, and of a fork.
pub mod Differences
pub mod Forks
mod Lists
