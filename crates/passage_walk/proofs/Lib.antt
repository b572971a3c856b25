-- Laws of a walk: a fork above two parts of it, its steps by height, and the walk over a whole log.
mod Forks
mod Walking
pub mod Whole
