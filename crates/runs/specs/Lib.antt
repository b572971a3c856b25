-- The bytes that the programs give, and what is printed.
pub mod Given
pub mod Lines
