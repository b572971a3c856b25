-- What checking a passage letter returns.
pub mod Outcome
