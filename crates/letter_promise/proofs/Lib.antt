-- The promise, proved, over a log's nodes and by the plain rule; and that number 15 is struck.
pub mod Kept
mod Ours
mod Checked
mod Found
mod Named
pub mod Promise
pub mod Plain
pub mod Struck
