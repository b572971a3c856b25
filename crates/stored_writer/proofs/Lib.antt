-- What the proofs of the functions share, and the round trip of stored nodes.
mod Fills
pub mod Round
