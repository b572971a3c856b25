-- The laws that the proofs of the calls for C cite, and that each statement leaves one answer.
mod Nodes
pub mod Only
