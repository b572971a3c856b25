-- The folded tree of a list of digests.
use Rattle.std.specs.Prelude.{true, false, List, [], ℕ, zero, suc, ◌^◌, length, get_or, take, drop, leb}
use Rattle.shape.specs.Sizes.{height_of}
use Rattle.shape.specs.Tree.{Tree, tip, fork}

-- the tree of 1 to 2^h digests: where there are more than 2^(h-1), so many go left and the rest right
unfoldable pub tree_in : ℕ → List (List ℕ) → Tree
tree_in zero ds = tip (get_or ds 0 [])
tree_in (suc h) ds =
    elim (leb (length ds) (2 ^ h))
    [ true ↦ tree_in h ds | false ↦ fork (tree_in h (take (2 ^ h) ds)) (tree_in h (drop (2 ^ h) ds)) ]

-- the folded tree: more digests than one are split after the largest power of two below their number (`tree_split`)
unfoldable pub tree : List (List ℕ) → Tree
tree ds = tree_in (height_of (length ds)) ds
