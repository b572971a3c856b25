-- The root worked out from a passage letter: from its records' digests and the digests given; what the code's own steps ask.
pub mod Root
pub mod Steps
