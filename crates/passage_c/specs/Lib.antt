-- What the calls of passages for C answer.
pub mod Calls
