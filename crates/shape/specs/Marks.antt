-- The marked examples of the rules, M1 to M16, in one table, and what each says of the definitions (`marked_says`).
use Rattle.std.specs.Prelude.{◌≡◌, List, [], ◌∷◌, ℕ}
use Rattle.shape.specs.Answers.{done, refused}
use Rattle.shape.specs.Sizes.{size_answer, position_answer, count_answer, hash_count}
use Rattle.shape.specs.Positions.{item_positions}

-- the size of n leaves; a size that gives 1; where leaf i is; what an append at n counts; the items for n and i
pub data Mark : Type 0 where
  size leaf counts : ℕ → ℕ → Mark
  none : ℕ → Mark
  items : ℕ → ℕ → List (List ℕ) → Mark

abbrev pub Says : Mark → Type 0
Says (size n s) = size_answer n ≡ done s
Says (none s) = count_answer s ≡ refused 1
Says (leaf i p) = position_answer i ≡ done p
Says (counts n k) = hash_count n ≡ k
Says (items n i ps) = item_positions n i ≡ ps

-- M1 to M9; M10 to M13; M14 to M16
unfoldable pub marked : List Mark
marked =
    size 0 0 ∷ size 1 1 ∷ size 2 3 ∷ size 3 4 ∷ size 4 7 ∷ size 5 8 ∷ size 6 10 ∷ size 7 11 ∷ size 8 15
    ∷ none 2 ∷ leaf 2 3 ∷ leaf 7 11 ∷ counts 7 4
    ∷ items 5 2 ((4 ∷ []) ∷ (2 ∷ []) ∷ (7 ∷ []) ∷ [])
    ∷ items 7 4 ((6 ∷ []) ∷ (8 ∷ []) ∷ (10 ∷ []) ∷ [])
    ∷ items 7 0 ((1 ∷ []) ∷ (5 ∷ []) ∷ (9 ∷ 10 ∷ []) ∷ [])
    ∷ []
