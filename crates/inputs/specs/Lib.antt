-- What the code's own values are called, what stands on top of a fork, and the first difference of two given lists.
pub mod Inputs
pub mod Forks
pub mod Given
