-- What the calls of stored nodes for C answer and leave behind their pointers.
pub mod Nodes
