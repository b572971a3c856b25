-- Laws that the proofs of `src/against.rt` cite.
mod Whole
