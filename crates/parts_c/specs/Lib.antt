-- What the calls of a digest in parts for C answer.
pub mod Parts
