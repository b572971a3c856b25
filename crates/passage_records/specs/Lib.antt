-- What the calls that hand back records return, and what the code's own steps are called.
pub mod Outcome
pub mod Steps
