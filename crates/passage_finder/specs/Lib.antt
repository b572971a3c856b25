-- What the finder of a passage letter returns, and what the code's own steps are called.
pub mod Outcome
pub mod Steps
