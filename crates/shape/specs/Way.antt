-- The way to a leaf: the turns from the root of a log's tree.
use Rattle.std.specs.Prelude.{true, false, List, [], ◌∷◌, ℕ, zero, suc, ◌-◌, ◌^◌, leb, ltb, eqb}
use Rattle.shape.specs.Sizes.{height_of}
use Rattle.shape.specs.Tree.{Turn, left}
use Rattle.shape.specs.Letter.{rightward}

-- the turns from the root down to leaf i of n, n at most 2^h: a right turn is within a peak where the n leaves are a perfect tree
unfoldable pub way_in : ℕ → ℕ → ℕ → List Turn
way_in zero n i = []
way_in (suc h) n i =
    elim (leb n (2 ^ h)) [
      | true ↦ way_in h n i
      | false ↦ elim (ltb i (2 ^ h)) [
        | true ↦ left ∷ way_in h (2 ^ h) i
        | false ↦ rightward (eqb n (2 ^ suc h)) ∷ way_in h (n - 2 ^ h) (i - 2 ^ h)
      ]
    ]

-- the way to leaf i of n (`way_leads`)
unfoldable pub way : ℕ → ℕ → List Turn
way n i = way_in (height_of n) n i
