-- What writing a stored node returns.
pub mod Outcome
