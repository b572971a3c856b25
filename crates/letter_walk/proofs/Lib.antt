-- Laws of a walk: its inputs, a fork above it, its turns, and the walk over a whole log.
mod Inputs
mod Forks
mod Turning
pub mod Whole
