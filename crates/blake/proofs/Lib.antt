-- Laws that the proofs of this crate's functions cite.
pub mod Sides
pub mod Rule
pub mod Lengths
pub mod Modes
