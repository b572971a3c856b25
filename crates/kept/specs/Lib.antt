-- What a call for C leaves behind its pointers.
pub mod Kept
