-- Laws that the proofs of `src/lane.rt` cite.
mod Four
