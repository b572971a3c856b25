-- What checking a letter returns.
pub mod Outcome
