-- What a push and a root come to, and which counts are refused.
pub mod Laws
pub mod Counted
