-- The plain rule gives one root, which is the folded tree's and what the root call answers.
pub mod Folded
pub mod Splits
pub mod Root
