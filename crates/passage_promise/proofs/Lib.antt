-- The promise for passage letters, proved; and a passage letter beside the single letter.
mod Short
mod Read
mod Checked
mod Ours
mod Written
mod Owned
mod Named
mod Found
mod Orders
pub mod Single
pub mod Promise
pub mod Beside
