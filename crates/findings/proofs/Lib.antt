-- Laws of the answer, and of the first two records that differ.
pub mod Settled
pub mod Places
pub mod Only
