-- What the proofs of the functions share, and the laws of stored nodes.
pub mod Fields
mod Flags
pub mod Ends
pub mod Else
pub mod Edited
pub mod Only
