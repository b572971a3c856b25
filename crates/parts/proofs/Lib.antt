-- Laws that the proofs cite.
mod Begins
mod Taking
mod Ending
pub mod Answering
