-- The view of a passage of play: a strictly rising list of indexes of a log.
use Rattle.std.specs.Prelude.{true, false, List, [], ◌∷◌, map, ℕ, zero, suc, ◌+◌, ◌-◌, ◌^◌, ◌≤◌, ◌<◌, leb, ltb, length, get_or, take, drop}
use Rattle.shape.specs.Sizes.{height_of}
use Rattle.shape.specs.Folded.{tree}
use Rattle.views.specs.View.{View, given, asked, both, gives_of}

-- strictly rising, from p on and below q
abbrev pub Rising : ℕ → ℕ → List ℕ → Type 0
Rising p q [] = Unit {0}
Rising p q (i ∷ is) = (p ≤ i) × (i < q) × Rising (suc i) q is

-- how many indexes at the front are below m
unfoldable pub under : ℕ → List ℕ → ℕ
under m [] = 0
under m (i ∷ is) = elim (ltb i m) [ true ↦ suc (under m is) | false ↦ 0 ]

-- n leaves, n at most 2^h, the first of them leaf p, and the indexes among them: a subtree that holds none is given
unfoldable pub passage_in : ℕ → ℕ → ℕ → List ℕ → View
passage_in zero n p [] = given
passage_in zero n p (i ∷ is) = asked
passage_in (suc h) n p [] = given
passage_in (suc h) n p (i ∷ is) =
    elim (leb n (2 ^ h)) [
      | true ↦ passage_in h n p (i ∷ is)
      | false ↦
          let k = under (p + 2 ^ h) (i ∷ is) in
          both (passage_in h (2 ^ h) p (take k (i ∷ is))) (passage_in h (n - 2 ^ h) (p + 2 ^ h) (drop k (i ∷ is)))
    ]

-- the view of the asked indexes in the folded tree of n leaves
unfoldable pub passage : ℕ → List ℕ → View
passage n is = passage_in (height_of n) n 0 is

-- the log's records at the indexes
abbrev pub asks_of : List (List ℕ) → List ℕ → List (List ℕ)
asks_of rs is = map (λ i. get_or rs i []) is

-- the digests that the log's letter gives, in the walk's order
abbrev pub passage_gives : (List ℕ → List ℕ) → List (List ℕ) → List ℕ → List (List ℕ)
passage_gives digest rs is = gives_of digest (passage (length rs) is) (tree (map digest rs))
