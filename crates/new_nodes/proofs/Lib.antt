-- The nodes that are written one height after the other, and what is left in the buffer.
pub mod Climbs
mod Writing
mod Saving
mod Placing
pub mod Told
