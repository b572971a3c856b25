-- What a letter shows of a log's folded tree, whatever its kind, and what any nodes show of it. Over the digest everything holds for any function.
-- A name that ends in `_in` is a recursion on a height that holds the leaves. The name without it takes the least such height.
pub mod View
pub mod Passage
pub mod Start
pub mod Largest
pub mod Shows
pub mod Compared
pub mod Walk
pub mod One
pub mod Half
