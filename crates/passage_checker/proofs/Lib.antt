-- One pass over a letter, what it tells, and that the statement leaves one answer.
pub mod Passing
pub mod Worked
pub mod Only
pub mod Panel
