-- What any nodes show on the way to a leaf, a log's or not, over any digest function.
use Rattle.std.specs.Prelude.{true, false, List, [], ◌∷◌, ◌++◌, ℕ, zero, suc, ◌-◌, ◌^◌, leb, ltb}
use Rattle.wire.specs.Slices.{differ}
use Rattle.shape.specs.Sizes.{height_of}
use Rattle.shape.specs.Positions.{top, behind, peaks_in, fold}

-- 1 where one of two is, else 0
abbrev pub either : ℕ → ℕ → ℕ
either zero m = m
either (suc k) m = 1

module _ (digest : List ℕ → List ℕ) (node : ℕ → List ℕ) where
  -- what is hashed on top of n leaves from position s on, n above 2^h and at most 2^(h+1): the peak or child to the left, and the rest folded
  abbrev pub sides : ℕ → ℕ → ℕ → List ℕ
  sides h n s = node (top h s) ++ fold digest node (peaks_in (suc h) (n - 2 ^ h) (behind h s))

  -- the strings that are hashed on the way to leaf i of n, n at most 2^h, from the root down
  unfoldable pub seen_in : ℕ → ℕ → ℕ → ℕ → List (List ℕ)
  seen_in zero n i s = []
  seen_in (suc h) n i s =
      elim (leb n (2 ^ h)) [
        | true ↦ seen_in h n i s
        | false ↦ elim (ltb i (2 ^ h)) [
          | true ↦ sides h n s ∷ seen_in h (2 ^ h) i s
          | false ↦ sides h n s ∷ seen_in h (n - 2 ^ h) (i - 2 ^ h) (behind h s)
        ]
      ]

  -- the strings that a log's nodes show on the way to leaf i of n
  unfoldable pub seen : ℕ → ℕ → List (List ℕ)
  seen n i = seen_in (height_of n) n i 0

  -- a perfect tree of 2^h leaves, from position s on: 1 where a node on the way to leaf i isn't the digest of its two children, else 0
  unfoldable pub broken_peak : ℕ → ℕ → ℕ → ℕ
  broken_peak zero i s = 0
  broken_peak (suc h) i s =
      let here = differ (node (top (suc h) s)) (digest (node (top h s) ++ node (top h (behind h s)))) in
      elim (ltb i (2 ^ h)) [
        | true ↦ either here (broken_peak h i s)
        | false ↦ either here (broken_peak h (i - 2 ^ h) (behind h s))
      ]

  -- n leaves, n below 2^k, from position s on: the peak that leaf i is in
  unfoldable pub broken_in : ℕ → ℕ → ℕ → ℕ → ℕ
  broken_in zero n i s = 0
  broken_in (suc k) n i s =
      elim (leb (2 ^ k) n) [
        | true ↦ elim (ltb i (2 ^ k)) [ true ↦ broken_peak k i s | false ↦ broken_in k (n - 2 ^ k) (i - 2 ^ k) (behind k s) ]
        | false ↦ broken_in k n i s
      ]

  -- 1 where a node on the way to leaf i of n, within its peak, isn't the digest of its two children, else 0
  unfoldable pub broken : ℕ → ℕ → ℕ
  broken n i = broken_in (suc (height_of n)) n i 0
