-- What any nodes show on the way to a leaf: how it goes by the two sides of a fork.
use mathlib.Core.Path.{◌≡◌, ◌∙◌}
use mathlib.Core.Logic.{by_cases}
use mathlib.Core.List.{List, ◌∷◌, ◌++◌}
use Prim.Native.Nat.{ℕ, suc, ◌-◌, ◌^◌, ◌≤◌, ◌<◌}
use native.Mathlib.Decide.{dec_lt}
use native.Mathlib.Omega.{arith}
use lib.Pow.{pow_pos}
use borrow.Author.Tests.{le-leb, lt-leb, lt-ltb, le-ltb}
use Rattle.wire.specs.Slices.{differ}
use Rattle.wire.proofs.Differences.{differ_same}
use Rattle.shape.specs.Positions.{top, behind, peaks_in, fold}
use Rattle.shape.specs.Seen.{either, sides, seen_in, seen, broken_peak, broken_in, broken}
use Rattle.shape.proofs.Heights.{any_height}
use Rattle.shape.proofs.Peaks.{peaks_full, peaks_more, peaks_some}
use Rattle.shape.proofs.Reading.{fold_cons}

module _ (digest : List ℕ → List ℕ) (node : ℕ → List ℕ) where
  pub seen_low : (h n i s : ℕ) → n ≤ 2 ^ h → seen_in digest node (suc h) n i s ≡ seen_in digest node h n i s
  unfolding seen_in
  seen_low h n i s p = rw (le-leb n (2 ^ h) p, seen_in)

  pub seen_left : (h n i s : ℕ) → 2 ^ h < n → i < 2 ^ h
      → seen_in digest node (suc h) n i s ≡ sides digest node h n s ∷ seen_in digest node h (2 ^ h) i s
  unfolding seen_in
  seen_left h n i s p q = rw (lt-leb n (2 ^ h) p, seen_in, lt-ltb i (2 ^ h) q)

  pub seen_right : (h n i s : ℕ) → 2 ^ h < n → 2 ^ h ≤ i
      → seen_in digest node (suc h) n i s ≡ sides digest node h n s ∷ seen_in digest node h (n - 2 ^ h) (i - 2 ^ h) (behind h s)
  unfolding seen_in
  seen_right h n i s p q = rw (lt-leb n (2 ^ h) p, seen_in, le-ltb i (2 ^ h) q)

  pub seen_any : (h n i : ℕ) → n ≤ 2 ^ h → seen_in digest node h n i 0 ≡ seen digest node n i
  unfolding seen
  seen_any h n i p = any_height (λ (k : ℕ). seen_in digest node k n i 0) n (λ k q. seen_low k n i 0 q) h p

  -- what stands on top of n leaves: within a peak the node, above the peaks what is worked out from the two sides
  pub top_full : (h n s : ℕ) → n ≡ 2 ^ suc h → fold digest node (peaks_in (suc (suc h)) n s) ≡ node (top (suc h) s)
  top_full h n s e = rw (peaks_full (suc h) n s e)

  pub top_fold : (h n s : ℕ) → 2 ^ h < n → n < 2 ^ suc h → fold digest node (peaks_in (suc (suc h)) n s) ≡ digest (sides digest node h n s)
  top_fold h n s p q =
      rw (peaks_more h n s p q)
      (fold_cons digest node (top h s) (peaks_in (suc h) (n - 2 ^ h) (behind h s))
      (peaks_some (suc h) (n - 2 ^ h) (behind h s) (omega arith) (omega arith)))

  -- within a peak the two sides are the two children
  pub sides_full : (h n s : ℕ) → n ≡ 2 ^ suc h → sides digest node h n s ≡ node (top h s) ++ node (top h (behind h s))
  sides_full h n s e = rw (peaks_full h (n - 2 ^ h) (behind h s) (omega arith))

  -- at a fork: 1 where what stands on top isn't the digest of the two sides, else 0. Above the peaks it is that digest
  abbrev pub top_differs : ℕ → ℕ → ℕ → ℕ
  top_differs h n s = differ (fold digest node (peaks_in (suc (suc h)) n s)) (digest (sides digest node h n s))

  top_children : (h n s : ℕ) → n ≡ 2 ^ suc h
      → top_differs h n s ≡ differ (node (top (suc h) s)) (digest (node (top h s) ++ node (top h (behind h s))))
  top_children h n s e = rw (top_full h n s e, sides_full h n s e)

  top_agrees : (h n s : ℕ) → 2 ^ h < n → n < 2 ^ suc h → top_differs h n s ≡ 0
  top_agrees h n s p q = differ_same _ _ (top_fold h n s p q)

  broken_skip : (k n i s : ℕ) → n < 2 ^ k → broken_in digest node (suc k) n i s ≡ broken_in digest node k n i s
  unfolding broken_in
  broken_skip k n i s p = rw (lt-leb (2 ^ k) n p, broken_in)

  broken_here : (k n i s : ℕ) → 2 ^ k ≤ n → i < 2 ^ k → broken_in digest node (suc k) n i s ≡ broken_peak digest node k i s
  unfolding broken_in
  broken_here k n i s p q = rw (le-leb (2 ^ k) n p, broken_in, lt-ltb i (2 ^ k) q)

  broken_pass : (k n i s : ℕ) → 2 ^ k ≤ n → 2 ^ k ≤ i
      → broken_in digest node (suc k) n i s ≡ broken_in digest node k (n - 2 ^ k) (i - 2 ^ k) (behind k s)
  unfolding broken_in
  broken_pass k n i s p q = rw (le-leb (2 ^ k) n p, broken_in, le-ltb i (2 ^ k) q)

  peak_left : (h n i s : ℕ) → n ≡ 2 ^ suc h → i < 2 ^ h
      → broken_peak digest node (suc h) i s ≡ either (top_differs h n s) (broken_peak digest node h i s)
  unfolding broken_peak
  peak_left h n i s e p = rw (lt-ltb i (2 ^ h) p, broken_peak, top_children h n s e)

  peak_right : (h n i s : ℕ) → n ≡ 2 ^ suc h → 2 ^ h ≤ i
      → broken_peak digest node (suc h) i s ≡ either (top_differs h n s) (broken_peak digest node h (i - 2 ^ h) (behind h s))
  unfolding broken_peak
  peak_right h n i s e p = rw (le-ltb i (2 ^ h) p, broken_peak, top_children h n s e)

  -- one leaf has nothing above it
  pub broken_one : (n i s : ℕ) → n ≤ 1 → i < n → broken_in digest node 1 n i s ≡ 0
  unfolding broken_peak
  broken_one n i s p q = broken_here 0 n i s (omega arith) (omega arith)

  pub broken_low : (h n i s : ℕ) → n ≤ 2 ^ h → broken_in digest node (suc (suc h)) n i s ≡ broken_in digest node (suc h) n i s
  broken_low h n i s p = broken_skip (suc h) n i s (omega (arith, pow_pos h))

  pub broken_left : (h n i s : ℕ) → 2 ^ h < n → n ≤ 2 ^ suc h → i < 2 ^ h
      → broken_in digest node (suc (suc h)) n i s ≡ either (top_differs h n s) (broken_in digest node (suc h) (2 ^ h) i s)
  broken_left h n i s p q l =
      rw (broken_here h (2 ^ h) i s (omega arith) l)
      (by_cases (dec_lt n (2 ^ suc h))
      (λ a. rw (broken_skip (suc h) n i s a, broken_here h n i s (omega arith) l, top_agrees h n s p a))
      (λ a. broken_here (suc h) n i s (omega arith) (omega arith) ∙ peak_left h n i s (omega arith) l))

  pub broken_right : (h n i s : ℕ) → 2 ^ h < n → n ≤ 2 ^ suc h → 2 ^ h ≤ i → i < n
      → broken_in digest node (suc (suc h)) n i s ≡ either (top_differs h n s) (broken_in digest node (suc h) (n - 2 ^ h) (i - 2 ^ h) (behind h s))
  broken_right h n i s p q l m =
      by_cases (dec_lt n (2 ^ suc h))
      (λ a.
      rw (
        broken_skip (suc h) n i s a,
        broken_pass h n i s (omega arith) l,
        top_agrees h n s p a,
        broken_skip h (n - 2 ^ h) (i - 2 ^ h) (behind h s) (omega arith),
      ))
      (λ a.
      rw (broken_here h (n - 2 ^ h) (i - 2 ^ h) (behind h s) (omega arith) (omega arith))
      (broken_here (suc h) n i s (omega arith) (omega arith) ∙ peak_right h n i s (omega arith) l))

  pub broken_any : (h n i : ℕ) → n ≤ 2 ^ h → broken_in digest node (suc h) n i 0 ≡ broken digest node n i
  unfolding broken
  broken_any h n i p = any_height (λ (k : ℕ). broken_in digest node (suc k) n i 0) n (λ k q. broken_low k n i 0 q) h p
