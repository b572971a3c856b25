-- The root without positions: the rule, the tree that it makes, and what the root call answers by it.
pub mod Rule
pub mod Tree
pub mod Root
