-- Stored nodes: their bytes, and what reading one returns.
pub mod Nodes
pub mod Read
