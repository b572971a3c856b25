-- What a walk answers, and what its own steps are called.
pub mod Outcome
pub mod Steps
