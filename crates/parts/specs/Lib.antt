-- What a state of the digest in parts holds, and what its calls answer.
pub mod State
pub mod Answers
