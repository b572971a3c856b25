-- What writing a passage letter returns, and what the code's own steps ask and answer.
pub mod Outcome
pub mod Steps
