-- The nodes of a log as bytes of a lent buffer, and what the code's own steps ask.
pub mod Nodes
pub mod Steps
