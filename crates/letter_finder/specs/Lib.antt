-- What the finder returns, and what the code's own steps are called.
pub mod Outcome
pub mod Steps
