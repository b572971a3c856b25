-- The laws of requests and of the walks for them.
pub mod Steps
pub mod Digests
pub mod Rising
