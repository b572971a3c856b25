-- The walk of the folded tree in the words of the rules: from the root, left before right, the largest subtrees of a kind are given.
use Rattle.std.specs.Prelude.{Bool, true, false, ◌&&◌, ◌||◌, List, [], ◌∷◌, ℕ, zero, suc, ◌+◌, ◌-◌, ◌^◌, leb, ltb, eqb}
use Rattle.shape.specs.Sizes.{height_of}
use Rattle.views.specs.View.{View, given, asked, both}

-- n leaves, n at most 2^h, the first of them leaf p: given where they are of the kind, by their first leaf and their number; else looked into
unfoldable pub largest_in : (ℕ → ℕ → Bool) → ℕ → ℕ → ℕ → View
largest_in kind zero n p = elim (kind p n) [ true ↦ given | false ↦ asked ]
largest_in kind (suc h) n p =
    elim (kind p n) [
      | true ↦ given
      | false ↦ elim (leb n (2 ^ h)) [
        | true ↦ largest_in kind h n p
        | false ↦ both (largest_in kind h (2 ^ h) p) (largest_in kind h (n - 2 ^ h) (p + 2 ^ h))
      ]
    ]

-- in the folded tree of n leaves
unfoldable pub largest : (ℕ → ℕ → Bool) → ℕ → View
largest kind n = largest_in kind (height_of n) n 0

-- of a passage: holding no asked record (`passage_largest`)
abbrev pub holds_none : List ℕ → ℕ → ℕ → Bool
holds_none [] p n = true
holds_none (i ∷ is) p n = (ltb i p || leb (p + n) i) && holds_none is p n

-- of half-time: perfect and within the first o leaves, so that it is one of their peaks; or wholly to the right of them (`start_largest`)
abbrev pub peak_or_right : ℕ → ℕ → ℕ → Bool
peak_or_right o p n = leb o p || (leb (p + n) o && eqb n (2 ^ height_of n))
