-- The finished subtrees of input that may go on, what takes it byte by byte, and what a state stores of both.
pub mod Subtrees
pub mod Run
pub mod Counts
pub mod Stack
pub mod Steps
