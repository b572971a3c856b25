-- What append and root answer, what a run of appends leaves, and what is hashed.
pub mod Outcome
pub mod Appends
pub mod Hashed
