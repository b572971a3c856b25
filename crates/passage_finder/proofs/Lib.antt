-- Laws of the finder: the log's own records, a letter that was taken apart, the order in its parts, and the nodes that it reads.
mod Records
mod Owned
mod Formed
pub mod Stages
pub mod Local
