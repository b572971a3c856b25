-- Laws of the stack, of bytes taken, of chunks taken whole, and of the code's steps.
pub mod Numbers
pub mod Folds
pub mod Takes
pub mod Puts
mod Chunks
mod Fours
pub mod Counts
pub mod Flags
pub mod Copies
pub mod Places
pub mod Going
