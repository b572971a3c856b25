-- Where the peaks of a log and the items of a letter stand, and what the nodes there give, over any digest function.
use Rattle.std.specs.Prelude.{true, false, List, [], ◌∷◌, ◌++◌, ℕ, zero, suc, ◌+◌, ◌-◌, ◌^◌, leb, ltb}
use Rattle.shape.specs.Sizes.{height_of}

-- a perfect tree of 2^h leaves, from position s on: its top is the last of 2^(h+1) - 1 nodes
abbrev pub top : ℕ → ℕ → ℕ
top h s = s + (2 ^ suc h - 2)

-- the position behind it
abbrev pub behind : ℕ → ℕ → ℕ
behind h s = s + (2 ^ suc h - 1)

-- the peaks of n leaves, n below 2^k, from position s on: one for each one-bit of n, tallest first
unfoldable pub peaks_in : ℕ → ℕ → ℕ → List ℕ
peaks_in zero n s = []
peaks_in (suc k) n s =
    elim (leb (2 ^ k) n) [ true ↦ top k s ∷ peaks_in k (n - 2 ^ k) (behind k s) | false ↦ peaks_in k n s ]

-- the positions of the peaks of a log of n leaves (`peaks_ones`)
unfoldable pub peaks : ℕ → List ℕ
peaks n = peaks_in (suc (height_of n)) n 0

-- an item is what is folded from the nodes at some positions, most often at one
abbrev pub alone : ℕ → List ℕ
alone p = p ∷ []

-- a perfect tree of 2^h leaves, from position s on: the siblings from leaf i upward
unfoldable pub siblings : ℕ → ℕ → ℕ → List (List ℕ)
siblings zero i s = []
siblings (suc h) i s =
    elim (ltb i (2 ^ h)) [
      | true ↦ siblings h i s ++ (alone (top h (behind h s)) ∷ [])
      | false ↦ siblings h (i - 2 ^ h) (behind h s) ++ (alone (top h s) ∷ [])
    ]

-- if peaks stand to the right, one digest: those peaks folded
abbrev pub to_the_right : List ℕ → List (List ℕ)
to_the_right [] = []
to_the_right (p ∷ ps) = (p ∷ ps) ∷ []

-- n leaves, n below 2^k, from position s on: peaks left of i's peak, tallest first; siblings from the leaf upward; the peaks to the right
unfoldable pub positions_in : ℕ → ℕ → ℕ → ℕ → List (List ℕ)
positions_in zero n i s = []
positions_in (suc k) n i s =
    elim (leb (2 ^ k) n) [
      | true ↦ elim (ltb i (2 ^ k)) [
        | true ↦ siblings k i s ++ to_the_right (peaks_in k (n - 2 ^ k) (behind k s))
        | false ↦ alone (top k s) ∷ positions_in k (n - 2 ^ k) (i - 2 ^ k) (behind k s)
      ]
      | false ↦ positions_in k n i s
    ]

-- the positions of the items of index i of n leaves
unfoldable pub item_positions : ℕ → ℕ → List (List ℕ)
item_positions n i = positions_in (suc (height_of n)) n i 0

module _ (digest : List ℕ → List ℕ) where
  -- the rightmost node, folded leftward: the digest of the node to the left and what is folded so far; one node is itself the fold
  abbrev pub fold : (ℕ → List ℕ) → List ℕ → List ℕ
  fold node [] = []
  fold node (p ∷ []) = node p
  fold node (p ∷ q ∷ ps) = digest (node p ++ fold node (q ∷ ps))
