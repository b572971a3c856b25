-- Two buffers compared under the peaks of n leaves, and looked through for a broken node: how it goes by the peaks and by the two sides of each.
-- As code goes: `half` stands for 2 ^ (h - 1), and `mid` for the position of the right side.
use mathlib.Core.Path.{◌≡◌, refl, ap, ap₂, ◌∙◌}
use mathlib.Core.List.{List, ◌++◌}
use Prim.Native.Nat.{ℕ, suc, ◌+◌, ◌-◌, ◌*◌, ◌^◌, ◌≤◌, ◌<◌}
use native.Mathlib.Omega.{arith}
use Rattle.wire.specs.Slices.{differ}
use Rattle.shape.specs.Positions.{top, behind}
use Rattle.shape.specs.Seen.{either}
use Rattle.shape.specs.Difference.{Diff, agree, difference}
use Rattle.shape.proofs.Powers.{Halved}
use Rattle.views.specs.Start.{full}
use Rattle.views.specs.Shows.{seen_by, broken_by, inside_in}
use Rattle.views.specs.Compared.{or_else, apart}
use Rattle.views.proofs.Compare.{difference_cons, difference_join}
use Rattle.views.proofs.Heights.{full_below, broken_sides, within_broken}
use Rattle.views.proofs.Inside.{full_seen, inside_skip, inside_take, seen_length}

module _ (digest : List ℕ → List ℕ) where
  -- ---- a broken node, at any place

  module _ (node : ℕ → List ℕ) where
    pub full_none : (h s : ℕ) → h ≡ 0 → broken_by digest node (full h) (2 ^ h) s ≡ 0
    full_none h s z = rw z

    -- the node on top, then the left side, then the right
    pub full_fork : (h half : ℕ) → Halved h half → (s mid : ℕ) → mid ≡ s + (2 * half - 1)
        → broken_by digest node (full h) (2 ^ h) s
        ≡ either (differ (node (mid + (2 * half - 1))) (digest (node (mid - 1) ++ node (mid + (2 * half - 2)))))
        (either (broken_by digest node (full (h - 1)) half s) (broken_by digest node (full (h - 1)) half mid))
    full_fork h half t s mid e =
        let g = full (h - 1) in
        let p : half < 2 * half = omega (arith, t.some) in
        let q : 2 * half ≤ 2 * half = omega arith in
        let m : 2 * half - half ≡ half = omega arith in
        ap₂ (λ v (k : ℕ). broken_by digest node v k s) (full_below h half t) t.whole
        ∙ broken_sides h half t digest node g g (2 * half) s mid p q e
        ∙ rw (within_broken h half t digest node g g (2 * half) s mid p q e m, m)

  -- ---- two buffers

  module _ (a b : ℕ → List ℕ) where
    -- the first difference under a perfect tree of 2^h leaves, and under the peaks of n leaves, n below 2^k
    abbrev pub peak_difference : ℕ → ℕ → Diff
    peak_difference h s = difference (seen_by digest a (full h) (2 ^ h) s) (seen_by digest b (full h) (2 ^ h) s)

    abbrev pub inside_difference : ℕ → ℕ → ℕ → Diff
    inside_difference k n s = difference (inside_in digest a k n s) (inside_in digest b k n s)

    pub peak_none : (s : ℕ) → peak_difference 0 s ≡ agree
    unfolding difference
    peak_none s = refl

    -- the two children, then the left side, then the right
    pub peak_fork : (k s : ℕ) → peak_difference (suc k) s
        ≡ or_else (apart (a (top k s) ++ a (top k (behind k s))) (b (top k s) ++ b (top k (behind k s))))
        (or_else (peak_difference k s) (peak_difference k (behind k s)))
    peak_fork k s =
        ap₂ difference (full_seen digest a k s) (full_seen digest b k s)
        ∙ difference_cons _ _ _ _
        ∙ ap (or_else (apart _ _)) (difference_join _ _ _ _ (seen_length digest a b (full k) (2 ^ k) s))

    -- peak by peak
    pub inside_none : (n s : ℕ) → inside_difference 0 n s ≡ agree
    unfolding difference inside_in
    inside_none n s = refl

    pub inside_pass : (k n s : ℕ) → n < 2 ^ k → inside_difference (suc k) n s ≡ inside_difference k n s
    inside_pass k n s p = ap₂ difference (inside_skip digest a k n s p) (inside_skip digest b k n s p)

    pub inside_peak : (k n s : ℕ) → 2 ^ k ≤ n
        → inside_difference (suc k) n s ≡ or_else (peak_difference k s) (inside_difference k (n - 2 ^ k) (behind k s))
    inside_peak k n s p =
        ap₂ difference (inside_take digest a k n s p) (inside_take digest b k n s p)
        ∙ difference_join _ _ _ _ (seen_length digest a b (full k) (2 ^ k) s)
