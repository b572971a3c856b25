-- The strings that an append and a root give to the digest, over any digest function.
use Rattle.std.specs.Prelude.{List, [], ◌∷◌, ◌++◌, ℕ, zero, suc}
use Rattle.shape.specs.Sizes.{size_of, trailing_ones}
use Rattle.shape.specs.Nodes.{left_of, parent_of}
use Rattle.shape.specs.Positions.{fold}

module _ (digest : List ℕ → List ℕ) where
  -- what `climb` hashes: for each parent the node to the left, then the one that was reached (`climb_hashed_lem`)
  unfoldable pub climb_hashed : (ℕ → List ℕ) → ℕ → ℕ → ℕ → List ℕ → List (List ℕ)
  climb_hashed node zero j p x = []
  climb_hashed node (suc k) j p x = (node (left_of j p) ++ x) ∷ climb_hashed node k (suc j) (suc p) (parent_of digest node j p x)

  -- what an append to n leaves hashes besides the record (`new_hashed_lem`)
  unfoldable pub new_hashed : (ℕ → List ℕ) → ℕ → List ℕ → List (List ℕ)
  new_hashed node n d = climb_hashed node (trailing_ones n) 0 (size_of n) d

  -- what `fold` hashes: for each node but the last one that node, then what is folded so far; the string that is hashed last comes first
  abbrev pub fold_hashed : (ℕ → List ℕ) → List ℕ → List (List ℕ)
  fold_hashed node [] = []
  fold_hashed node (p ∷ []) = []
  fold_hashed node (p ∷ q ∷ ps) = (node p ++ fold digest node (q ∷ ps)) ∷ fold_hashed node (q ∷ ps)
