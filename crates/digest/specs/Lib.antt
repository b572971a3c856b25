-- The promise of the digest, its modes, and a key before an input.
pub mod Digest
pub mod Modes
pub mod UnderKey
