-- Laws of sizes, counts and positions; of trees and letters; and of what a buffer gives that holds a log's nodes.
pub mod Powers
pub mod Heights
mod Trailing
pub mod Sizes
mod Counts
pub mod Counting
mod Narrow
pub mod Only
pub mod Marks
pub mod Difference
pub mod Bind
pub mod Prune
pub mod Letters
pub mod Trees
pub mod Ways
pub mod Nodes
mod Held
pub mod Appends
pub mod Leaves
pub mod Peaks
pub mod Positions
pub mod Reading
pub mod Hashed
pub mod Seen
pub mod Inside
pub mod Own
pub mod Beside
