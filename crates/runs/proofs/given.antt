-- Laws that the proofs of `src/given.rt` cite.
mod More
