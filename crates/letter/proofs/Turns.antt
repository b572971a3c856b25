-- The way to a leaf, one height after the other. `half` stands for 2 ^ (h - 1) as the code has it.
use mathlib.Core.Path.{◌≡◌, ap, sym, ◌∙◌}
use mathlib.Core.List.{List, [], ◌∷◌}
use Prim.Native.Nat.{ℕ, suc, ◌-◌, ◌%◌, ◌^◌, ◌≤◌, ◌<◌}
use native.Mathlib.Omega.{arith}
use lib.ListN.{length}
use lib.Dec.{eqb}
use borrow.Author.Tests.{eq-eqb, ne_eqb}
use Rattle.shape.specs.Tree.{Turn, left, right, past}
use Rattle.shape.specs.Letter.{rightward}
use Rattle.shape.specs.Way.{way_in}
use Rattle.shape.proofs.Powers.{Halved, halved}
use Rattle.shape.proofs.Ways.{way_low, way_left, way_turn}

-- at no height there is one leaf
pub turn_none : (h n i : ℕ) → h ≡ 0 → way_in h n i ≡ []
unfolding way_in
turn_none h n i z = rw z

module _ (h n i : ℕ) (some : h ≡ 0 → ⊥) (low : h ≤ 64) (half : ℕ) (e : half ≡ 2 ^ (h - 1) % 2 ^ 64) where
  halves : Halved h half
  halves = halved h half (omega arith) low e

  pub turn_low : n ≤ half → way_in h n i ≡ way_in (h - 1) n i
  turn_low p = ap (λ (k : ℕ). way_in k n i) halves.below ∙ way_low (h - 1) n i (omega (arith, halves.is))

  pub turn_left : half < n → i < half → way_in h n i ≡ left ∷ way_in (h - 1) half i
  turn_left p q =
      ap (λ (k : ℕ). way_in k n i) halves.below
      ∙ way_left (h - 1) n i (omega (arith, halves.is)) (omega (arith, halves.is))
      ∙ ap {B = List Turn} (λ (m : ℕ). left ∷ way_in (h - 1) m i) (sym halves.is)

  -- any right turn
  turn_any : half < n → half ≤ i → way_in h n i ≡ rightward (eqb n (2 ^ suc (h - 1))) ∷ way_in (h - 1) (n - half) (i - half)
  turn_any p q =
      ap (λ (k : ℕ). way_in k n i) halves.below
      ∙ way_turn (h - 1) n i (omega (arith, halves.is)) (omega (arith, halves.is))
      ∙ ap {B = List Turn} (λ (m : ℕ). rightward (eqb n (2 ^ suc (h - 1))) ∷ way_in (h - 1) (n - m) (i - m)) (sym halves.is)

  -- within a peak
  pub turn_right_lem : half < n → half ≤ i → n - half ≡ half → way_in h n i ≡ right ∷ way_in (h - 1) (n - half) (i - half)
  turn_right_lem p q s = turn_any p q ∙ rw (eq-eqb n (2 ^ suc (h - 1)) (omega (arith, halves.double)))

  -- past a peak
  pub turn_past : half < n → half ≤ i → (n - half ≡ half → ⊥) → way_in h n i ≡ past ∷ way_in (h - 1) (n - half) (i - half)
  turn_past p q s = turn_any p q ∙ rw (ne_eqb n (2 ^ suc (h - 1)) (λ f. s (omega (arith, halves.double))))

  -- a right turn of either kind is one turn
  pub turn_length : half < n → half ≤ i → length (way_in h n i) ≡ suc (length (way_in (h - 1) (n - half) (i - half)))
  turn_length p q = ap length (turn_any p q)
