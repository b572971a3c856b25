-- What BLAKE3 is, and what the code's own steps are called.
pub mod Blake
pub mod Modes
pub mod Rule
pub mod Steps
