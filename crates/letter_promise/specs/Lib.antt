-- What writer, checker and finder promise together, over a log's nodes and by the plain rule; and number 15, which is struck.
pub mod Terms
pub mod Promise
pub mod Plain
pub mod Struck
