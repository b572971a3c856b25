-- The two sides of n leaves; what stands on top of them; how what any nodes show goes by the two sides.
use mathlib.Core.Path.{◌≡◌, refl, sym, ap, ap₂, ◌∙◌}
use mathlib.Core.Logic.{by_cases}
use mathlib.Core.List.{List, ◌∷◌, ◌++◌}
use Prim.Native.Nat.{ℕ, zero, suc, ◌-◌, ◌^◌, ◌≤◌, ◌<◌}
use native.Mathlib.Decide.{dec_le, dec_lt}
use native.Mathlib.Omega.{arith}
use borrow.Author.Tests.{eq-eqb, ne_eqb}
use Rattle.wire.specs.Slices.{differ}
use Rattle.wire.proofs.Differences.{differ_same}
use Rattle.shape.specs.Sizes.{height_of}
use Rattle.shape.specs.Positions.{top, behind, peaks_in, fold}
use Rattle.shape.specs.Seen.{either, sides}
use Rattle.shape.proofs.Heights.{height_holds, height_least, height_is}
use Rattle.shape.proofs.Peaks.{peaks_any, peaks_full}
use Rattle.shape.proofs.Seen.{top_fold, sides_full}
use Rattle.views.specs.View.{View, both, side}
use Rattle.views.specs.Shows.{on_top, broken_top, seen_by, broken_by, gives_by, leaves_by}

-- the height of more than one leaf is above 0
height_some : (n : ℕ) → 1 < n → height_of n ≡ suc (height_of n - 1)
height_some n p = go (height_of n) (height_holds n)
  where
    go : (h : ℕ) → n ≤ 2 ^ h → h ≡ suc (h - 1)
    go zero q = absurd (omega arith)
    go (suc h) q = omega arith

pub side_holds : (n : ℕ) → 1 < n → n ≤ 2 ^ suc (side n)
unfolding side
side_holds n p = rw (height_some n p) at (height_holds n)

pub side_below : (n : ℕ) → 1 < n → 2 ^ side n < n
unfolding side
side_below n p =
    by_cases (dec_le n (2 ^ (height_of n - 1)))
    (λ a. absurd (omega (arith, height_least n (height_of n - 1) a, height_some n p)))
    (λ a. omega arith)

pub side_is : (h n : ℕ) → 2 ^ h < n → n ≤ 2 ^ suc h → side n ≡ h
unfolding side
side_is h n p q = let e : height_of n ≡ suc h = height_is n (suc h) q (omega arith) in omega arith

module _ (digest : List ℕ → List ℕ) (node : ℕ → List ℕ) where
  -- at every height that holds the leaves
  pub top_any : (h n s : ℕ) → n ≤ 2 ^ h → fold digest node (peaks_in (suc h) n s) ≡ on_top digest node n s
  unfolding on_top
  top_any h n s p = ap (fold digest node) (peaks_any h n s p)

  pub top_peak : (h s : ℕ) → on_top digest node (2 ^ h) s ≡ node (top h s)
  top_peak h s = sym (top_any h (2 ^ h) s (omega arith)) ∙ ap (fold digest node) (peaks_full h (2 ^ h) s refl)

  pub top_one : (s : ℕ) → on_top digest node 1 s ≡ node s
  top_one s = top_peak 0 s ∙ ap node (omega arith)

  -- what is hashed on top of two sides is what stands on top of each
  pub sides_tops : (h n s : ℕ) → 2 ^ h < n → n ≤ 2 ^ suc h
      → sides digest node h n s ≡ on_top digest node (2 ^ h) s ++ on_top digest node (n - 2 ^ h) (behind h s)
  sides_tops h n s p q =
      ap₂ (λ (x y : List ℕ). x ++ y) (sym (top_peak h s)) (top_any h (n - 2 ^ h) (behind h s) (omega arith))

  -- above the peaks it is worked out
  pub top_above : (h n s : ℕ) → 2 ^ h < n → n < 2 ^ suc h → on_top digest node n s ≡ digest (sides digest node h n s)
  top_above h n s p q = sym (top_any (suc h) n s (omega arith)) ∙ top_fold digest node h n s p q

  pub broken_within : (h n s : ℕ) → n ≡ 2 ^ suc h
      → broken_top digest node h n s ≡ differ (on_top digest node n s) (digest (sides digest node h n s))
  unfolding broken_top
  broken_within h n s e =
      let t : on_top digest node n s ≡ node (top (suc h) s) = ap (λ (k : ℕ). on_top digest node k s) e ∙ top_peak (suc h) s in
      rw (eq-eqb n (2 ^ suc h) e, broken_top, t, sides_full digest node h n s e)

  pub broken_above : (h n s : ℕ) → n < 2 ^ suc h → broken_top digest node h n s ≡ 0
  unfolding broken_top
  broken_above h n s p = rw (ne_eqb n (2 ^ suc h) (λ f. omega arith), broken_top)

  -- within a peak or above: broken where what stands on top isn't the digest of the two sides
  pub broken_top_lem : (h n s : ℕ) → 2 ^ h < n → n ≤ 2 ^ suc h
      → broken_top digest node h n s ≡ differ (on_top digest node n s) (digest (sides digest node h n s))
  broken_top_lem h n s p q =
      by_cases (dec_lt n (2 ^ suc h))
      (λ a. broken_above h n s a ∙ sym (differ_same _ _ (top_above h n s p a)))
      (λ a. broken_within h n s (omega arith))

  -- the equations of a fork, by the height that its left side has
  module _ (l r : View) (h n s : ℕ) (p : 2 ^ h < n) (q : n ≤ 2 ^ suc h) where
    pub seen_fork : seen_by digest node (both l r) n s
        ≡ sides digest node h n s ∷ seen_by digest node l (2 ^ h) s ++ seen_by digest node r (n - 2 ^ h) (behind h s)
    seen_fork = rw (side_is h n p q)

    pub broken_fork : broken_by digest node (both l r) n s
        ≡ either (broken_top digest node h n s)
        (either (broken_by digest node l (2 ^ h) s) (broken_by digest node r (n - 2 ^ h) (behind h s)))
    broken_fork = rw (side_is h n p q)

    pub gives_fork : gives_by digest node (both l r) n s
        ≡ gives_by digest node l (2 ^ h) s ++ gives_by digest node r (n - 2 ^ h) (behind h s)
    gives_fork = rw (side_is h n p q)

    pub leaves_fork : leaves_by digest node (both l r) n s
        ≡ leaves_by digest node l (2 ^ h) s ++ leaves_by digest node r (n - 2 ^ h) (behind h s)
    leaves_fork = rw (side_is h n p q)
