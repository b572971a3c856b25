-- What a finder of many records answers.
pub mod Outcome
