-- What the code's own step asks and leaves.
pub mod Steps
