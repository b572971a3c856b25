-- The laws that the proofs of the calls for C cite, and that each statement leaves one answer.
mod Letters
mod Finder
pub mod Only
