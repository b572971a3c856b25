-- Laws of an input written, and of the answer.
mod Puts
pub mod Settled
pub mod Only
