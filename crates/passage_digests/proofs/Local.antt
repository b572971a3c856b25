-- The digests for a passage of n leaves are read below the size: nodes that agree there give the same. Over any digest function.
use mathlib.Core.Path.{◌≡◌, refl, sym, ap, ap₂, ◌∙◌}
use mathlib.Core.Logic.{by_cases}
use mathlib.Core.List.{List, [], ◌∷◌, ◌++◌}
use Prim.Native.Nat.{ℕ, zero, suc, ◌+◌, ◌-◌, ◌^◌, ◌≤◌, ◌<◌}
use native.Mathlib.Decide.{ℕ_discrete, dec_le}
use native.Mathlib.Omega.{arith}
use lib.Pow.{pow_pos}
use Rattle.shape.specs.Sizes.{size_of, height_of}
use Rattle.shape.specs.Positions.{top, behind, peaks_in, fold}
use Rattle.shape.proofs.Heights.{height_above}
use Rattle.shape.proofs.Peaks.{peaks_skip, peaks_take, peaks_none, peaks_some}
use Rattle.shape.proofs.Reading.{fold_cons}
use Rattle.shape.proofs.Sizes.{size_power, size_peak, size_split}
use Rattle.views.specs.View.{View, given, asked, both, side, ViewOf}
use Rattle.views.specs.Passage.{passage}
use Rattle.views.specs.Shows.{on_top, gives_by}
use Rattle.views.proofs.Sides.{side_below, side_holds}
use Rattle.views.proofs.Passages.{passage_of}
use Rattle.passage.specs.Digests.{digests_of}
use Rattle.passage_digests.proofs.Exact.{by_limits, digests_none, digests_are}

module _ (digest : List ℕ → List ℕ) (f g : ℕ → List ℕ) (m : ℕ) (e : (p : ℕ) → p < m → f p ≡ g p) where
  -- the tallest peak, and the others
  peak_same : (k n s : ℕ) → 2 ^ k ≤ n → n < 2 ^ suc k → s + size_of n ≤ m
      → fold digest f (peaks_in k (n - 2 ^ k) (behind k s)) ≡ fold digest g (peaks_in k (n - 2 ^ k) (behind k s))
      → fold digest f (peaks_in (suc k) n s) ≡ fold digest g (peaks_in (suc k) n s)
  peak_same k n s a q b i =
      let r : n ≡ 2 ^ k + (n - 2 ^ k) = omega arith in
      let w : size_of n ≡ 2 ^ suc k - 1 + size_of (n - 2 ^ k) = ap size_of r ∙ size_peak k (n - 2 ^ k) (omega arith) in
      let here : f (top k s) ≡ g (top k s) = e (top k s) (omega (arith, pow_pos k)) in
      let ps : List ℕ = peaks_in k (n - 2 ^ k) (behind k s) in
      rw (peaks_take k n s a)
      (by_cases (ℕ_discrete (n - 2 ^ k) 0)
      (λ z. let none : ps ≡ [] = ap (λ (x : ℕ). peaks_in k x (behind k s)) z ∙ peaks_none k (behind k s) in rw none here)
      (λ z.
      let some = peaks_some k (n - 2 ^ k) (behind k s) (omega arith) (omega arith) in
      fold_cons digest f (top k s) ps some ∙ ap₂ (λ (x y : List ℕ). digest (x ++ y)) here i ∙ sym (fold_cons digest g (top k s) ps some)))

  peaks_same : (k n s : ℕ) → n < 2 ^ k → s + size_of n ≤ m → fold digest f (peaks_in k n s) ≡ fold digest g (peaks_in k n s)
  unfolding peaks_in
  peaks_same zero n s q b = refl
  peaks_same (suc k) n s q b =
      by_cases (dec_le (2 ^ k) n)
      (λ a.
      let r : n ≡ 2 ^ k + (n - 2 ^ k) = omega arith in
      let w : size_of n ≡ 2 ^ suc k - 1 + size_of (n - 2 ^ k) = ap size_of r ∙ size_peak k (n - 2 ^ k) (omega arith) in
      peak_same k n s a q b (peaks_same k (n - 2 ^ k) (behind k s) (omega arith) (omega (arith, pow_pos k))))
      (λ a. rw (peaks_skip k n s (omega arith)) (peaks_same k n s (omega arith) b))

  top_same : (n s : ℕ) → s + size_of n ≤ m → on_top digest f n s ≡ on_top digest g n s
  unfolding on_top
  top_same n s b = peaks_same (suc (height_of n)) n s (height_above n) b

  gives_same : (v : View) (n s : ℕ) → ViewOf n v → s + size_of n ≤ m → gives_by digest f v n s ≡ gives_by digest g v n s
  gives_same given n s o b = ap {B = List (List ℕ)} (λ (x : List ℕ). x ∷ []) (top_same n s b)
  gives_same asked n s o b = refl
  gives_same (both l r) n s o b =
      let h = side n in
      let k = size_split h n (side_below n o.0) (side_holds n o.0) in
      let w = size_power h in
      let z = pow_pos h in
      ap₂ (λ (x y : List (List ℕ)). x ++ y) (gives_same l (2 ^ h) s o.1 (omega arith))
      (gives_same r (n - 2 ^ h) (behind h s) o.2 (omega arith))

pub digests_local : (digest : List ℕ → List ℕ) (f g : ℕ → List ℕ) (n : ℕ) (is : List ℕ) → ((p : ℕ) → p < size_of n → f p ≡ g p)
    → digests_of digest f n is ≡ digests_of digest g n is
digests_local digest f g n is e =
    by_limits n is
    (λ p q r.
    digests_are digest f n is p q r
    ∙ gives_same digest f g (size_of n) e (passage n is) n 0 (passage_of n is p) (omega arith)
    ∙ sym (digests_are digest g n is p q r))
    (λ h. digests_none digest f n is h ∙ sym (digests_none digest g n is h))
