-- Laws of turned words, of the words that a compression starts from, and of the length of what it gives.
mod Turns
mod Begun
pub mod Lengths
