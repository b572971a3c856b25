-- The stack as its words lie: eight for each subtree, the oldest first, and zeros behind the last.
use Rattle.std.specs.Prelude.{List, [], ◌∷◌, ◌++◌, ℕ, zero, suc, ◌-◌, ◌*◌, length, take, drop}
use Rattle.wire.specs.Slices.{zeros}

-- subtree i: eight words
abbrev pub subtree_at : List ℕ → ℕ → List ℕ
subtree_at ws i = take 8 (drop (8 * i) ws)

-- the first k
unfoldable pub subtrees : List ℕ → ℕ → List (List ℕ)
subtrees ws zero = []
subtrees ws (suc k) = subtrees ws k ++ (subtree_at ws k ∷ [])

-- their words one behind the other
unfoldable pub joined : List (List ℕ) → List ℕ
joined [] = []
joined (l ∷ ls) = l ++ joined ls

-- xs and zeros, n in all
abbrev pub padded : ℕ → List ℕ → List ℕ
padded n xs = xs ++ zeros (n - length xs)
