-- Sizes and positions of a log; its folded tree; the letters of its leaves; M1 to M16. Over the digest everything holds for any function.
-- A name that ends in `_in` is a recursion on a height that holds the leaves. The name without it takes the least such height.
pub mod Answers
pub mod Sizes
pub mod Nodes
pub mod Positions
pub mod Tree
pub mod Folded
pub mod Letter
pub mod Way
pub mod Difference
pub mod Hashed
pub mod Seen
pub mod Marks
