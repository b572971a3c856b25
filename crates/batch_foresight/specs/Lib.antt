-- The first refusal of many records by numbers alone, and what the code's own steps are called.
pub mod Foresight
pub mod Steps
