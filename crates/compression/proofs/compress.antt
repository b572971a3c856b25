-- Laws that the proofs of `src/compress.rt` cite.
mod Permutation
mod Quarters
