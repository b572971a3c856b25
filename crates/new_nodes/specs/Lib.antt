-- What is put behind the nodes of a log, and what the code's own steps are called.
pub mod Outcome
pub mod Steps
