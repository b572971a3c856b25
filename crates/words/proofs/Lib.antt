-- Laws of lists by their rule, of loops that fill one, and of blocks as words.
pub mod Builds
pub mod Fill
mod Bytes
pub mod Blocks
