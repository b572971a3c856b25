-- What the digest in parts promises.
mod Shapes
pub mod Holds
pub mod Cut
pub mod Only
