-- Laws that the proofs of `src/broken.rt` cite.
mod Breaking
