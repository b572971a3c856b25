-- Laws that the proofs of `src/lines.rt` cite.
mod Digits
