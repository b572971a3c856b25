-- What an accepted letter is, what two of them show, that the statement leaves one answer, and that the panel's program reads enough.
pub mod Accepted
mod Answers
pub mod Two
pub mod Only
pub mod Panel
