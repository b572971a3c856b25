-- A fold of peaks from any position on: the room that it has, what it is within the limits, at every height that holds the leaves, and beyond them.
use mathlib.Core.Path.{◌≡◌, sym, ap, ◌∙◌}
use mathlib.Core.Logic.{by_cases}
use mathlib.Core.List.{List}
use Prim.Native.Nat.{ℕ, suc, ◌+◌, ◌^◌, ◌≤◌, ◌<◌}
use native.Mathlib.Decide.{dec_lt, dec_le}
use native.Mathlib.Numerals.{add-one}
use native.Mathlib.Omega.{arith}
use borrow.Author.Tests.{lt-ltb, le-ltb, le-leb, lt-leb}
use lib.Pow.{pow_mono}
use Rattle.wire.specs.Slices.{zeros}
use Rattle.shape.specs.Sizes.{height_of}
use Rattle.shape.specs.Positions.{peaks_in, fold}
use Rattle.shape.proofs.Heights.{height_above, height_least}
use Rattle.shape.proofs.Peaks.{peaks_any}
use Rattle.nodes.specs.Nodes.{node_in, fold_from}
use Rattle.nodes.specs.Steps.{Foldable}

-- no sum wraps below
pub from_room : (n s h : ℕ) → h ≡ height_of n → 0 < n → n ≤ 2 ^ 32 → s ≤ 2 ^ 34 → Foldable (h + 1) n s
from_room n s h e some few near =
    let low : height_of n ≤ 32 = height_least n 32 few in
    let q : 2 ^ (h + 1) ≡ 2 ^ suc (height_of n) = ap (λ (x : ℕ). 2 ^ x) (add-one h ∙ ap suc e) in
    let p : 2 ^ suc (height_of n) ≤ 2 ^ 33 = pow_mono {i = suc (height_of n)} {j = 33} (omega arith) in
    record { low = omega arith; some = some; few = omega (arith, height_above n); near = omega arith }

module _ (digest : List ℕ → List ℕ) (bs : List ℕ) (n s : ℕ) where
  -- within the limits, at every height
  pub from_any : (h : ℕ) → n ≤ 2 ^ h → 0 < n → n ≤ 2 ^ 32 → s ≤ 2 ^ 34 → fold_from digest bs n s ≡ fold digest (node_in bs) (peaks_in (suc h) n s)
  unfolding fold_from
  from_any h p some few near =
      rw (lt-ltb 0 n some, le-leb n (2 ^ 32) few, le-leb s (2 ^ 34) near, fold_from) (ap (fold digest (node_in bs)) (sym (peaks_any h n s p)))

  -- beyond them
  pub from_beyond : (0 < n → n ≤ 2 ^ 32 → s ≤ 2 ^ 34 → ⊥) → fold_from digest bs n s ≡ zeros 32
  unfolding fold_from
  from_beyond h =
      by_cases (dec_lt 0 n)
      (λ a. by_cases (dec_le n (2 ^ 32))
      (λ b.
      let far : 2 ^ 34 < s = by_cases (dec_lt (2 ^ 34) s) (λ c. c) (λ c. absurd (h a b (omega arith))) in
      rw (lt-ltb 0 n a, le-leb n (2 ^ 32) b, lt-leb s (2 ^ 34) far, fold_from))
      (λ b. rw (lt-ltb 0 n a, lt-leb n (2 ^ 32) (omega arith), fold_from)))
      (λ a. rw (le-ltb 0 n (omega arith), fold_from))
