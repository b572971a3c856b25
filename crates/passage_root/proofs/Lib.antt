-- What working a root out asks and finds; a letter's leaf digests; the root that is worked out from a letter; its one answer.
mod Working
pub mod Root
pub mod Hashed
pub mod Letter
pub mod Only
