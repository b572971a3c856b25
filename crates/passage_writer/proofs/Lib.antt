-- Laws of the writer: how long the letter is, how it fills the buffer.
pub mod Lengths
mod Entries
mod Fills
mod Answers
pub mod Local
