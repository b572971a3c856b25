-- Half-time: the views of an old log and of the new log that it begins, and all that stands under a peak.
use Rattle.std.specs.Prelude.{true, false, ℕ, zero, suc, ◌-◌, ◌^◌, leb, eqb}
use Rattle.shape.specs.Sizes.{height_of}
use Rattle.views.specs.View.{View, given, asked, both}

-- the first o of n leaves, n at most 2^h: their peaks are given, and the largest subtrees to the right of them
unfoldable pub start_in : ℕ → ℕ → ℕ → View
start_in zero o n = given
start_in (suc h) o n =
    elim (leb n (2 ^ h)) [
      | true ↦ start_in h o n
      | false ↦ elim (leb o (2 ^ h)) [
        | true ↦ both (start_in h o (2 ^ h)) given
        | false ↦ elim (eqb o (2 ^ suc h)) [ true ↦ given | false ↦ both given (start_in h (o - 2 ^ h) (n - 2 ^ h)) ]
      ]
    ]

-- of the new log of n leaves: the peaks of the old one of o leaves, and the largest subtrees wholly to their right
unfoldable pub start : ℕ → ℕ → View
start o n = start_in (height_of n) o n

-- of the old log: its peaks
abbrev pub old : ℕ → View
old o = start o o

-- a perfect tree of 2^h leaves, all of it
abbrev pub full : ℕ → View
full zero = asked
full (suc h) = both (full h) (full h)
