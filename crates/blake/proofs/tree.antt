-- Laws that the proofs of `src/tree.rt` cite.
pub mod Four
mod Pair
mod Rooms
