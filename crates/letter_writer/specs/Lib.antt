-- What writing a letter returns.
pub mod Outcome
