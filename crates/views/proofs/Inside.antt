-- All that stands under the peaks of any nodes: how it goes by the peaks; no view meets a broken node where none is broken at any place;
-- and two such buffers that agree at the peaks agree at the leaves, or the first difference under the peaks is a collision.
use mathlib.Core.Path.{◌≡◌, refl, sym, ap, ap₂, subst, ◌∙◌}
use mathlib.Core.Logic.{by_cases}
use mathlib.Core.List.{List, ◌∷◌, ◌++◌, map}
use Prim.Native.Nat.{ℕ, zero, suc, ◌+◌, ◌-◌, ◌^◌, ◌≤◌, ◌<◌}
use native.Mathlib.Nat.{zero-add}
use native.Mathlib.Decide.{dec_lt}
use native.Mathlib.Omega.{arith}
use lib.ListN.{length, length-append}
use lib.Pow.{pow_pos}
use borrow.Author.Tests.{le-leb, lt-leb}
use Rattle.wire.proofs.Differences.{same_of_differ}
use Rattle.shape.specs.Sizes.{size_of, height_of}
use Rattle.shape.specs.Positions.{top, behind, peaks_in, peaks}
use Rattle.shape.specs.Seen.{either, sides}
use Rattle.shape.specs.Difference.{difference, Shown}
use Rattle.shape.proofs.Heights.{height_holds, height_above, any_height}
use Rattle.shape.proofs.Sizes.{size_zero, size_peak}
use Rattle.shape.proofs.Bind.{fronts, backs}
use Rattle.shape.proofs.Difference.{shown_map, shown_cons, shown_append}
use Rattle.shape.proofs.Peaks.{peaks_skip, peaks_take}
use Rattle.shape.proofs.Seen.{sides_full}
use Rattle.views.specs.View.{View, given, asked, both, side, ViewOf}
use Rattle.views.specs.Start.{full}
use Rattle.views.specs.Shows.{broken_top, seen_by, broken_by, inside_in, inside, unsound_in, unsound}
use Rattle.views.proofs.Sides.{side_is, side_holds, side_below, top_peak, broken_within, broken_above, seen_fork, broken_fork}
use Rattle.shape.proofs.Beside.{either_zero}

pub full_view : (k : ℕ) → ViewOf (2 ^ k) (full k)
full_view zero = refl
full_view (suc k) =
    let p : 2 ^ k < 2 ^ suc k = omega (arith, pow_pos k) in
    let e : 2 ^ suc k - 2 ^ k ≡ 2 ^ k = omega arith in
    rw (side_is k (2 ^ suc k) p (omega arith), e) (omega (arith, pow_pos k), full_view k, full_view k)

module _ (digest : List ℕ → List ℕ) (node : ℕ → List ℕ) where
  -- ---- equations

  pub full_seen : (k s : ℕ) → seen_by digest node (full (suc k)) (2 ^ suc k) s
      ≡ (node (top k s) ++ node (top k (behind k s))) ∷ seen_by digest node (full k) (2 ^ k) s ++ seen_by digest node (full k) (2 ^ k) (behind k s)
  full_seen k s =
      let p : 2 ^ k < 2 ^ suc k = omega (arith, pow_pos k) in
      let e : 2 ^ suc k - 2 ^ k ≡ 2 ^ k = omega arith in
      let f : sides digest node k (2 ^ suc k) s ≡ node (top k s) ++ node (top k (behind k s)) = sides_full digest node k (2 ^ suc k) s refl in
      seen_fork digest node (full k) (full k) k (2 ^ suc k) s p (omega arith)
      ∙ ap₂ (λ (x : List ℕ) (m : ℕ). x ∷ seen_by digest node (full k) (2 ^ k) s ++ seen_by digest node (full k) m (behind k s)) f e

  pub full_broken : (k s : ℕ) → broken_by digest node (full (suc k)) (2 ^ suc k) s
      ≡ either (broken_top digest node k (2 ^ suc k) s)
      (either (broken_by digest node (full k) (2 ^ k) s) (broken_by digest node (full k) (2 ^ k) (behind k s)))
  full_broken k s =
      let p : 2 ^ k < 2 ^ suc k = omega (arith, pow_pos k) in
      let e : 2 ^ suc k - 2 ^ k ≡ 2 ^ k = omega arith in
      broken_fork digest node (full k) (full k) k (2 ^ suc k) s p (omega arith)
      ∙ ap (λ (m : ℕ). either (broken_top digest node k (2 ^ suc k) s)
      (either (broken_by digest node (full k) (2 ^ k) s) (broken_by digest node (full k) m (behind k s)))) e

  pub inside_skip : (k n s : ℕ) → n < 2 ^ k → inside_in digest node (suc k) n s ≡ inside_in digest node k n s
  unfolding inside_in
  inside_skip k n s p = rw (lt-leb (2 ^ k) n p, inside_in)

  pub inside_take : (k n s : ℕ) → 2 ^ k ≤ n
      → inside_in digest node (suc k) n s ≡ seen_by digest node (full k) (2 ^ k) s ++ inside_in digest node k (n - 2 ^ k) (behind k s)
  unfolding inside_in
  inside_take k n s p = rw (le-leb (2 ^ k) n p, inside_in)

  pub unsound_skip : (k n s : ℕ) → n < 2 ^ k → unsound_in digest node (suc k) n s ≡ unsound_in digest node k n s
  unfolding unsound_in
  unsound_skip k n s p = rw (lt-leb (2 ^ k) n p, unsound_in)

  pub unsound_take : (k n s : ℕ) → 2 ^ k ≤ n
      → unsound_in digest node (suc k) n s
      ≡ either (broken_by digest node (full k) (2 ^ k) s) (unsound_in digest node k (n - 2 ^ k) (behind k s))
  unfolding unsound_in
  unsound_take k n s p = rw (le-leb (2 ^ k) n p, unsound_in)

  pub unsound_any : (h n s : ℕ) → n ≤ 2 ^ h → unsound_in digest node (suc h) n s ≡ unsound_in digest node (suc (height_of n)) n s
  unsound_any h n s p =
      any_height (λ (k : ℕ). unsound_in digest node (suc k) n s) n (λ k q. unsound_skip (suc k) n s (omega (arith, pow_pos k))) h p

  -- ---- the parts of a perfect tree with no broken node

  pub record Whole (k s : ℕ) : Type 0 where
    pub peak : node (top (suc k) s) ≡ digest (node (top k s) ++ node (top k (behind k s)))
    pub lefts : broken_by digest node (full k) (2 ^ k) s ≡ 0
    pub rights : broken_by digest node (full k) (2 ^ k) (behind k s) ≡ 0

  pub whole_parts : (k s : ℕ) → broken_by digest node (full (suc k)) (2 ^ suc k) s ≡ 0 → Whole k s
  whole_parts k s z =
      let b = either_zero (broken_top digest node k (2 ^ suc k) s) _ (sym (full_broken k s) ∙ z) in
      let c = either_zero (broken_by digest node (full k) (2 ^ k) s) _ b.1 in
      let e = same_of_differ _ _ (sym (broken_within digest node k (2 ^ suc k) s refl) ∙ b.0) in
      record {
        peak = sym (top_peak digest node (suc k) s) ∙ e ∙ ap digest (sides_full digest node k (2 ^ suc k) s refl);
        lefts = c.0;
        rights = c.1;
      }

  -- ---- no view meets a broken node

  full_most : (k : ℕ) (v : View) (s : ℕ) → ViewOf (2 ^ k) v → broken_by digest node (full k) (2 ^ k) s ≡ 0 → broken_by digest node v (2 ^ k) s ≡ 0
  full_most k given s o z = refl
  full_most k asked s o z = refl
  full_most zero (both l r) s o z = absurd (let q : 1 < 1 = o.0 in omega arith)
  full_most (suc k) (both l r) s o z =
      let p : 2 ^ k < 2 ^ suc k = omega (arith, pow_pos k) in
      let q : 2 ^ suc k ≤ 2 ^ suc k = omega arith in
      let e : 2 ^ suc k - 2 ^ k ≡ 2 ^ k = omega arith in
      let i : ViewOf (2 ^ k) l = rw (side_is k (2 ^ suc k) p q) at o.1 in
      let j : ViewOf (2 ^ k) r = rw (side_is k (2 ^ suc k) p q, e) at o.2 in
      let b = either_zero (broken_top digest node k (2 ^ suc k) s) _ (sym (full_broken k s) ∙ z) in
      let c = either_zero (broken_by digest node (full k) (2 ^ k) s) _ b.1 in
      let u : broken_by digest node r (2 ^ suc k - 2 ^ k) (behind k s) ≡ 0 = rw e (full_most k r (behind k s) j c.1) in
      rw (broken_fork digest node l r k (2 ^ suc k) s p q, b.0, full_most k l s i c.0, u)

  pub sound_most : (v : View) (h n s : ℕ) → ViewOf n v → n ≤ 2 ^ h → unsound_in digest node (suc h) n s ≡ 0 → broken_by digest node v n s ≡ 0
  sound_most given h n s o q z = refl
  sound_most asked h n s o q z = refl
  sound_most (both l r) h n s o q z =
      let k = side n in
      let p = side_below n o.0 in
      let t = side_holds n o.0 in
      let y : unsound_in digest node (suc (suc k)) n s ≡ 0 = unsound_any (suc k) n s t ∙ sym (unsound_any h n s q) ∙ z in
      by_cases (dec_lt n (2 ^ suc k))
      (λ a.
      let e : n - 2 ^ k < 2 ^ k = omega arith in
      let c = either_zero (broken_by digest node (full k) (2 ^ k) s) _
      (sym (unsound_skip (suc k) n s a ∙ unsound_take k n s (omega arith)) ∙ y) in
      let u = full_most k l s o.1 c.0 in
      let w = sound_most r k (n - 2 ^ k) (behind k s) o.2 (omega arith) (unsound_skip k (n - 2 ^ k) (behind k s) e ∙ c.1) in
      rw (broken_above digest node k n s a, u, w))
      (λ a.
      let e : n ≡ 2 ^ suc k = omega arith in
      let c = either_zero (broken_by digest node (full (suc k)) (2 ^ suc k) s) _ (sym (unsound_take (suc k) n s (omega arith)) ∙ y) in
      let f : ViewOf (2 ^ suc k) (both l r) = rw e at o in
      let g : broken_by digest node (both l r) (2 ^ suc k) s ≡ 0 = full_most (suc k) (both l r) s f c.0 in
      ap (λ (m : ℕ). broken_by digest node (both l r) m s) e ∙ g)

  -- no height
  pub sound_view : (v : View) (n : ℕ) → ViewOf n v → unsound digest node n ≡ 0 → broken_by digest node v n 0 ≡ 0
  unfolding unsound
  sound_view v n o z = sound_most v (height_of n) n 0 o (height_holds n) z

  -- ---- fewer leaves

  peak_fewer : (k o s : ℕ) → o < 2 ^ k → broken_by digest node (full k) (2 ^ k) s ≡ 0 → unsound_in digest node k o s ≡ 0
  unfolding unsound_in
  peak_fewer zero o s p z = refl
  peak_fewer (suc k) o s p z =
      let w = whole_parts k s z in
      by_cases (dec_lt o (2 ^ k))
      (λ a. rw (unsound_skip k o s a) (peak_fewer k o s a w.lefts))
      (λ a. rw (unsound_take k o s (omega arith), w.lefts) (peak_fewer k (o - 2 ^ k) (behind k s) (omega arith) w.rights))

  pub sound_fewer : (k n o s : ℕ) → o ≤ n → n < 2 ^ k → unsound_in digest node k n s ≡ 0 → unsound_in digest node k o s ≡ 0
  unfolding unsound_in
  sound_fewer zero n o s p q z = refl
  sound_fewer (suc k) n o s p q z =
      by_cases (dec_lt n (2 ^ k))
      (λ a. rw (unsound_skip k o s (omega arith)) (sound_fewer k n o s p a (sym (unsound_skip k n s a) ∙ z)))
      (λ a.
      let c = either_zero (broken_by digest node (full k) (2 ^ k) s) _ (sym (unsound_take k n s (omega arith)) ∙ z) in
      by_cases (dec_lt o (2 ^ k))
      (λ b. rw (unsound_skip k o s b) (peak_fewer k o s b c.0))
      (λ b.
      rw (unsound_take k o s (omega arith), c.0)
      (sound_fewer k (n - 2 ^ k) (o - 2 ^ k) (behind k s) (omega arith) (omega arith) c.1)))

  -- none broken among n leaves, none among the first o of them
  pub sound_start : (o n : ℕ) → o ≤ n → unsound digest node n ≡ 0 → unsound digest node o ≡ 0
  unfolding unsound
  sound_start o n p z =
      sym (unsound_any (height_of n) o 0 (omega (arith, height_holds n)))
      ∙ sound_fewer (suc (height_of n)) n o 0 p (height_above n) z

-- ---- two buffers

two_64 : (node : ℕ → List ℕ) → ((p : ℕ) → length (node p) ≡ 32) → (p q : ℕ) → length (node p ++ node q) ≡ 64
two_64 node node-32 p q = length-append (node p) (node q) ∙ omega (arith, node-32 p, node-32 q)

module _ (digest : List ℕ → List ℕ) (a b : ℕ → List ℕ) where
  pub seen_length : (v : View) (n s : ℕ) → length (seen_by digest a v n s) ≡ length (seen_by digest b v n s)
  seen_length given n s = refl
  seen_length asked n s = refl
  seen_length (both l r) n s =
      let h = side n in
      rw (
        length-append (seen_by digest a l (2 ^ h) s) (seen_by digest a r (n - 2 ^ h) (behind h s)),
        length-append (seen_by digest b l (2 ^ h) s) (seen_by digest b r (n - 2 ^ h) (behind h s)),
        seen_length l (2 ^ h) s,
        seen_length r (n - 2 ^ h) (behind h s),
      )

  -- they agree at the leaves from position s on
  abbrev pub SameLeaves : ℕ → ℕ → Type 0
  SameLeaves n s = (i : ℕ) → i < n → a (s + size_of i) ≡ b (s + size_of i)

  same_join : (k n s : ℕ) → n ≤ 2 ^ suc k → SameLeaves (2 ^ k) s → SameLeaves (n - 2 ^ k) (behind k s) → SameLeaves n s
  same_join k n s q f g i p =
      by_cases (dec_lt i (2 ^ k)) (f i)
      (λ c.
      let e : 2 ^ k + (i - 2 ^ k) ≡ i = omega arith in
      let m : behind k s + size_of (i - 2 ^ k) ≡ s + size_of i = omega (arith, size_peak k (i - 2 ^ k) (omega arith), ap size_of e) in
      rw m at (g (i - 2 ^ k) (omega arith)))

  module _ (a-32 : (p : ℕ) → length (a p) ≡ 32) (b-32 : (p : ℕ) → length (b p) ≡ 32) where
    abbrev PeakBound : ℕ → Type 0
    PeakBound k = (s : ℕ) → broken_by digest a (full k) (2 ^ k) s ≡ 0 → broken_by digest b (full k) (2 ^ k) s ≡ 0 → a (top k s) ≡ b (top k s)
        → Shown digest (SameLeaves (2 ^ k) s) (difference (seen_by digest a (full k) (2 ^ k) s) (seen_by digest b (full k) (2 ^ k) s))

    peak_one : PeakBound 0
    unfolding difference
    peak_one s y z e = λ i p.
        let f : s + size_of i ≡ top 0 s = let g : i ≡ 0 = omega arith in omega (arith, ap size_of g, size_zero) in
        rw f e

    peak_both : (k : ℕ) → PeakBound k → PeakBound (suc k)
    peak_both k ih s y z e =
        let u = whole_parts digest a k s y in
        let w = whole_parts digest b k s z in
        let m : 2 ^ suc k - 2 ^ k ≡ 2 ^ k = omega arith in
        let d : length (a (top k s)) ≡ length (b (top k s)) = a-32 (top k s) ∙ sym (b-32 (top k s)) in
        subst (Shown digest (SameLeaves (2 ^ suc k) s)) (sym (ap₂ difference (full_seen digest a k s) (full_seen digest b k s)))
        (shown_cons digest (SameLeaves (2 ^ suc k) s) _ _ _ _ (two_64 a a-32 (top k s) (top k (behind k s)))
        (two_64 b b-32 (top k s) (top k (behind k s))) (sym u.peak ∙ e ∙ w.peak) λ c.
        shown_append digest (SameLeaves (2 ^ suc k) s) (SameLeaves (2 ^ k) s) _ _ _ _ (seen_length (full k) (2 ^ k) s)
        (ih s u.lefts w.lefts (fronts (a (top k s)) _ (b (top k s)) _ d c))
        (λ f. shown_map digest (SameLeaves (2 ^ k) (behind k s)) _
        (difference (seen_by digest a (full k) (2 ^ k) (behind k s)) (seen_by digest b (full k) (2 ^ k) (behind k s)))
        (λ g. same_join k (2 ^ suc k) s (omega arith) f (rw m g))
        (ih (behind k s) u.rights w.rights (backs (a (top k s)) _ (b (top k s)) _ d c))))

    peak_bind : (k : ℕ) → PeakBound k
    peak_bind zero = peak_one
    peak_bind (suc k) = peak_both k (peak_bind k)

    -- n leaves, n below 2^k
    abbrev Agreed : ℕ → Type 0
    Agreed k = (n s : ℕ) → n < 2 ^ k → unsound_in digest a k n s ≡ 0 → unsound_in digest b k n s ≡ 0
        → map a (peaks_in k n s) ≡ map b (peaks_in k n s)
        → Shown digest (SameLeaves n s) (difference (inside_in digest a k n s) (inside_in digest b k n s))

    agreed_peak : (k : ℕ) → Agreed k → (n s : ℕ) → 2 ^ k ≤ n → n < 2 ^ suc k → unsound_in digest a (suc k) n s ≡ 0 → unsound_in digest b (suc k) n s ≡ 0
        → map a (peaks_in (suc k) n s) ≡ map b (peaks_in (suc k) n s)
        → Shown digest (SameLeaves n s) (difference (inside_in digest a (suc k) n s) (inside_in digest b (suc k) n s))
    agreed_peak k ih n s p q y z e =
        let u = either_zero (broken_by digest a (full k) (2 ^ k) s) _ (sym (unsound_take digest a k n s p) ∙ y) in
        let w = either_zero (broken_by digest b (full k) (2 ^ k) s) _ (sym (unsound_take digest b k n s p) ∙ z) in
        let f : a (top k s) ∷ map a (peaks_in k (n - 2 ^ k) (behind k s)) ≡ b (top k s) ∷ map b (peaks_in k (n - 2 ^ k) (behind k s)) =
        rw (peaks_take k n s p) at e in
        let g : a (top k s) ≡ b (top k s) = cc in
        let r : map a (peaks_in k (n - 2 ^ k) (behind k s)) ≡ map b (peaks_in k (n - 2 ^ k) (behind k s)) = cc in
        rw (inside_take digest a k n s p, inside_take digest b k n s p)
        (shown_append digest (SameLeaves n s) (SameLeaves (2 ^ k) s) _ _ _ _ (seen_length (full k) (2 ^ k) s)
        (peak_bind k s u.0 w.0 g)
        (λ c. shown_map digest (SameLeaves (n - 2 ^ k) (behind k s)) _
        (difference (inside_in digest a k (n - 2 ^ k) (behind k s)) (inside_in digest b k (n - 2 ^ k) (behind k s)))
        (λ d. same_join k n s (omega arith) c d)
        (ih (n - 2 ^ k) (behind k s) (omega arith) u.1 w.1 r)))

    agreed : (k : ℕ) → Agreed k
    unfolding inside_in difference
    agreed zero n s p y z e = λ i q. absurd (omega arith)
    agreed (suc k) n s p y z e =
        by_cases (dec_lt n (2 ^ k))
        (λ l.
        rw (inside_skip digest a k n s l, inside_skip digest b k n s l)
        (agreed k n s l (sym (unsound_skip digest a k n s l) ∙ y) (sym (unsound_skip digest b k n s l) ∙ z) (rw (peaks_skip k n s l) at e)))
        (λ l. agreed_peak k (agreed k) n s (omega arith) p y z e)

    -- no node is broken and the peaks agree: so do the leaves, or the first difference under the peaks is a collision
    pub inside_bind : (n : ℕ) → unsound digest a n ≡ 0 → unsound digest b n ≡ 0 → map a (peaks n) ≡ map b (peaks n)
        → Shown digest ((i : ℕ) → i < n → a (size_of i) ≡ b (size_of i)) (difference (inside digest a n) (inside digest b n))
    unfolding unsound inside peaks
    inside_bind n y z e =
        shown_map digest (SameLeaves n 0) _ (difference (inside_in digest a (suc (height_of n)) n 0) (inside_in digest b (suc (height_of n)) n 0))
        (λ f i p. rw (zero-add (size_of i)) at (f i p))
        (agreed (suc (height_of n)) n 0 (height_above n) y z e)
