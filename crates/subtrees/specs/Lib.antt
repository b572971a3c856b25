-- What a push leaves, the root over the subtrees, and which counts are refused.
pub mod Outcome
pub mod Counts
