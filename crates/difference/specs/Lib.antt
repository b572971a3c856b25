-- What is found, and what a comparison answers.
pub mod Findings
pub mod Outcome
