-- Laws that the proofs of this crate's functions cite, and those of `blake`.
mod Chain
pub mod Lengths
pub mod Laned
pub mod Parts
pub mod Answers
