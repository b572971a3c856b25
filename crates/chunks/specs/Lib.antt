-- What a chunk is, what four side by side are, and what the code's own step is called.
pub mod Chunks
pub mod Lanes
pub mod Steps
