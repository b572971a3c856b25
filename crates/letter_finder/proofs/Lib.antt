-- The laws of the finder.
pub mod Stages
mod Formed
pub mod Local
