-- Half-time: the trees that a letter makes for the two logs, and what a finder compares, over any digest function.
use Rattle.std.specs.Prelude.{◌≡◌, List, [], ℕ, ◌<◌, length, get_or}
use Rattle.shape.specs.Sizes.{size_of}
use Rattle.shape.specs.Tree.{Tree}
use Rattle.shape.specs.Difference.{Diff, difference}
use Rattle.views.specs.View.{plant}
use Rattle.views.specs.Start.{start, old}
use Rattle.views.specs.Shows.{inside, unsound}
use Rattle.views.specs.Compared.{or_else, compared}

-- the old log's tree, from the first of the letter's digests, which are its peaks
abbrev pub old_tree : ℕ → List (List ℕ) → Tree
old_tree o xs = plant (old o) [] xs

-- the new log's tree, from all of them
abbrev pub new_tree : ℕ → ℕ → List (List ℕ) → Tree
new_tree o n xs = plant (start o n) [] xs

module _ (digest : List ℕ → List ℕ) where
  -- nodes and records, a log's or not: each leaf is its record's digest, and no node is broken at any place
  pub record Sound (node : ℕ → List ℕ) (rs : List (List ℕ)) : Type 0 where
    pub leaf : (i : ℕ) → i < length rs → node (size_of i) ≡ digest (get_or rs i [])
    pub nowhere : unsound digest node (length rs) ≡ 0

  -- the first difference: old log with letter, new log with letter, old log with new under the old peaks
  unfoldable pub half_difference : (ℕ → List ℕ) → (ℕ → List ℕ) → ℕ → ℕ → List (List ℕ) → Diff
  half_difference a b o n xs =
      or_else (compared digest a (old o) o 0 [] xs)
      (or_else (compared digest b (start o n) n 0 [] xs) (difference (inside digest a o) (inside digest b o)))
