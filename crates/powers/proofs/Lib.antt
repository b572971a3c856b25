-- Laws of powers of two: above every number there is one, and below every number from 2 on a largest.
pub mod Powers
pub mod Largest
