-- The views and what nodes show, one height after the other, as code goes. `half` stands for 2 ^ (h - 1), and `mid` for the position of the right
-- side.
use mathlib.Core.Path.{◌≡◌, sym, ap, ap₂, ◌∙◌}
use mathlib.Core.List.{List, [], ◌∷◌, ◌++◌}
use Prim.Native.Nat.{ℕ, suc, ◌+◌, ◌-◌, ◌*◌, ◌^◌, ◌≤◌, ◌<◌}
use native.Mathlib.Omega.{arith}
use lib.ListN.{length, take, drop}
use Rattle.wire.specs.Slices.{differ}
use Rattle.wire.proofs.Lists.{rest_all}
use Rattle.shape.specs.Positions.{top, behind}
use Rattle.shape.specs.Seen.{either, sides}
use Rattle.shape.specs.Tree.{root, inputs}
use Rattle.shape.specs.Difference.{difference}
use Rattle.shape.proofs.Powers.{Halved}
use Rattle.views.specs.View.{View, given, asked, both, givens, askeds, plant_at}
use Rattle.views.specs.Passage.{under, passage_in}
use Rattle.views.specs.Start.{start_in, full}
use Rattle.views.specs.Shows.{on_top, broken_top, seen_by, broken_by, gives_by}
use Rattle.views.specs.Compared.{or_else, apart}
use Rattle.views.proofs.Sides.{sides_tops, top_peak, top_above, broken_within, broken_fork, gives_fork}
use Rattle.views.proofs.Compare.{compared_at}
use Rattle.views.proofs.Passages.{passage_none, passage_leaf, passage_low, passage_fork}
use Rattle.views.proofs.Starts.{start_low, start_left, start_right, start_peak}

-- ---- passages

-- no index
pub passage_empty : (h n p : ℕ) (is : List ℕ) → length is ≡ 0 → passage_in h n p is ≡ given
passage_empty h n p [] e = passage_none h n p
passage_empty h n p (i ∷ is) e = absurd (omega arith)

-- no height
pub passage_one : (h n p : ℕ) (is : List ℕ) → h ≡ 0 → 0 < length is → passage_in h n p is ≡ asked
passage_one h n p [] z q = absurd (omega arith)
passage_one h n p (i ∷ is) z q = rw z (passage_leaf n p i is)

module _ (h half : ℕ) (t : Halved h half) where
  pub passage_below : (n p : ℕ) (is : List ℕ) → n ≤ half → passage_in h n p is ≡ passage_in (h - 1) n p is
  passage_below n p is q = ap (λ (k : ℕ). passage_in k n p is) t.below ∙ passage_low (h - 1) n p is (omega (arith, t.is))

  pub passage_sides : (n p : ℕ) (is : List ℕ) (k : ℕ) → half < n → 0 < length is → k ≡ under (p + half) is
      → passage_in h n p is
      ≡ both (passage_in (h - 1) half p (take k is)) (passage_in (h - 1) (n - half) (p + half) (take (length is - k) (drop k is)))
  passage_sides n p [] k q s e = absurd (omega arith)
  passage_sides n p (i ∷ is) k q s e =
      ap (λ (m : ℕ). passage_in m n p (i ∷ is)) t.below
      ∙ passage_fork (h - 1) n p i is (omega (arith, t.is))
      ∙ rw (rest_all k (i ∷ is), e, t.is)

  -- ---- half-time

  pub start_below : (o n : ℕ) → n ≤ half → start_in h o n ≡ start_in (h - 1) o n
  start_below o n q = ap (λ (k : ℕ). start_in k o n) t.below ∙ start_low (h - 1) o n (omega (arith, t.is))

  pub start_lefts : (o n : ℕ) → half < n → o ≤ half → start_in h o n ≡ both (start_in (h - 1) o half) given
  start_lefts o n q r =
      ap (λ (k : ℕ). start_in k o n) t.below ∙ start_left (h - 1) o n (omega (arith, t.is)) (omega (arith, t.is)) ∙ rw t.is

  pub start_rights : (o n : ℕ) → half < n → half < o → o < 2 * half → start_in h o n ≡ both given (start_in (h - 1) (o - half) (n - half))
  start_rights o n q r l =
      ap (λ (k : ℕ). start_in k o n) t.below
      ∙ start_right (h - 1) o n (omega (arith, t.is)) (omega (arith, t.is)) (omega (arith, t.double)) ∙ rw t.is

  pub start_whole : (o n : ℕ) → o ≡ 2 * half → n ≡ 2 * half → start_in h o n ≡ given
  start_whole o n q r = start_peak h o n (omega (arith, t.whole)) (omega (arith, t.whole))

  -- a perfect tree, all of it
  pub full_below : full h ≡ both (full (h - 1)) (full (h - 1))
  full_below = ap full t.below

  -- ---- any nodes, at a fork of half and n - half leaves

  module _ (digest : List ℕ → List ℕ) (node : ℕ → List ℕ) (l r : View) (n s mid : ℕ) (p : half < n) (q : n ≤ 2 * half)
      (e : mid ≡ s + (2 * half - 1)) where
    mids : behind (h - 1) s ≡ mid
    mids = omega (arith, t.double)

    more : 2 ^ (h - 1) < n
    more = omega (arith, t.is)

    most : n ≤ 2 ^ suc (h - 1)
    most = omega (arith, t.double)

    below_double : (n - half ≡ half → ⊥) → n < 2 ^ suc (h - 1)
    below_double f = omega (arith, t.double)

    -- the two strings there: the node on top of the left side, and what stands on top of the right
    pub sides_are : sides digest node (h - 1) n s ≡ node (mid - 1) ++ on_top digest node (n - half) mid
    sides_are =
        let u : top (h - 1) s ≡ mid - 1 = omega (arith, t.double, t.some) in
        sides_tops digest node (h - 1) n s more most
        ∙ ap₂ (λ (x y : List ℕ). x ++ y) (top_peak digest node (h - 1) s ∙ ap node u)
        (ap₂ (on_top digest node) (ap (λ (k : ℕ). n - k) (sym t.is)) mids)

    pub broken_sides : broken_by digest node (both l r) n s
        ≡ either (broken_top digest node (h - 1) n s) (either (broken_by digest node l half s) (broken_by digest node r (n - half) mid))
    broken_sides = broken_fork digest node l r (h - 1) n s more most ∙ rw (mids, t.is)

    pub gives_sides : gives_by digest node (both l r) n s ≡ gives_by digest node l half s ++ gives_by digest node r (n - half) mid
    gives_sides = gives_fork digest node l r (h - 1) n s more most ∙ rw (mids, t.is)

    -- the comparison: the two strings there, then the left side, then the right
    pub half_compared : (leaf item : ℕ → List ℕ) (i j : ℕ)
        → difference (seen_by digest node (both l r) n s) (inputs digest (plant_at leaf item (both l r) i j))
        ≡ or_else (apart (sides digest node (h - 1) n s)
        (root digest (plant_at leaf item l i j) ++ root digest (plant_at leaf item r (i + askeds l) (j + givens l))))
        (or_else (difference (seen_by digest node l half s) (inputs digest (plant_at leaf item l i j)))
        (difference (seen_by digest node r (n - half) mid) (inputs digest (plant_at leaf item r (i + askeds l) (j + givens l)))))
    half_compared leaf item i j = compared_at digest node leaf item l r (h - 1) n s i j more most ∙ rw (mids, ← t.is)

    -- what stands on top of the left side
    pub left_top : on_top digest node half s ≡ node (mid - 1)
    left_top =
        let u : top (h - 1) s ≡ mid - 1 = omega (arith, t.double, t.some) in
        ap (λ (k : ℕ). on_top digest node k s) t.is ∙ top_peak digest node (h - 1) s ∙ ap node u

    -- within a peak its node stands on top ..
    pub within_top : n - half ≡ half → on_top digest node n s ≡ node (mid + (2 * half - 1))
    within_top f =
        let g : n ≡ 2 ^ suc (h - 1) = omega (arith, t.double) in
        let u : top (suc (h - 1)) s ≡ mid + (2 * half - 1) = omega (arith, t.double, t.some) in
        ap (λ (k : ℕ). on_top digest node k s) g ∙ top_peak digest node (suc (h - 1)) s ∙ ap node u

    -- .. and is broken where it isn't the digest of its two children
    pub within_broken : n - half ≡ half
        → broken_top digest node (h - 1) n s ≡ differ (node (mid + (2 * half - 1))) (digest (node (mid - 1) ++ node (mid + (2 * half - 2))))
    within_broken f =
        let g : n ≡ 2 ^ suc (h - 1) = omega (arith, t.double) in
        let u : on_top digest node half mid ≡ node (mid + (2 * half - 2)) =
        ap (λ (k : ℕ). on_top digest node k mid) t.is ∙ top_peak digest node (h - 1) mid ∙ ap node (omega (arith, t.double)) in
        broken_within digest node (h - 1) n s g ∙ rw (within_top f, sides_are, f, u)

    -- above the peaks it is worked out
    pub above_top : (n - half ≡ half → ⊥) → on_top digest node n s ≡ digest (sides digest node (h - 1) n s)
    above_top f = top_above digest node (h - 1) n s more (below_double f)
