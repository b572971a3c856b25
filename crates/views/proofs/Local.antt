-- Whatever a view of n leaves reads lies below their size: nodes that agree there show, break and give the same. What is cited: `top_local`,
-- `seen_local`, `broken_local`, `gives_local`.
use mathlib.Core.Path.{◌≡◌, refl, sym, ap, ap₂, ◌∙◌}
use mathlib.Core.Logic.{by_cases}
use mathlib.Core.List.{List, [], ◌∷◌, ◌++◌}
use Prim.Native.Nat.{ℕ, zero, suc, ◌+◌, ◌-◌, ◌^◌, ◌≤◌, ◌<◌}
use native.Mathlib.Decide.{dec_le, dec_lt}
use native.Mathlib.Omega.{arith}
use lib.Pow.{pow_pos}
use Rattle.shape.specs.Sizes.{size_of, height_of}
use Rattle.shape.specs.Positions.{top, behind}
use Rattle.shape.specs.Seen.{sides}
use Rattle.shape.proofs.Heights.{height_holds}
use Rattle.shape.proofs.Sizes.{size_power, size_split}
use Rattle.views.specs.View.{View, given, asked, both, side, ViewOf}
use Rattle.views.specs.Shows.{on_top, seen_by, broken_by, gives_by}
use Rattle.views.proofs.Sides.{side_holds, side_below, top_peak, top_one, sides_tops, top_above, broken_top_lem}

module _ (digest : List ℕ → List ℕ) (f g : ℕ → List ℕ) (m : ℕ) (e : (p : ℕ) → p < m → f p ≡ g p) where
  -- the nodes of n leaves, from position s on, end below m
  abbrev Ends : ℕ → ℕ → Type 0
  Ends n s = s + size_of n ≤ m

  ends_left : (h n s : ℕ) → 2 ^ h < n → n ≤ 2 ^ suc h → Ends n s → Ends (2 ^ h) s
  ends_left h n s p q b = omega (arith, size_split h n p q, size_power h)

  ends_right : (h n s : ℕ) → 2 ^ h < n → n ≤ 2 ^ suc h → Ends n s → Ends (n - 2 ^ h) (behind h s)
  ends_right h n s p q b = omega (arith, size_split h n p q)

  top_same : (h n s : ℕ) → 0 < n → n ≤ 2 ^ h → Ends n s → on_top digest f n s ≡ on_top digest g n s
  top_same zero n s z q b =
      let k : n ≡ 1 = omega arith in
      let l : s < m = omega (arith, ap size_of k ∙ size_power 0) in
      rw k (top_one digest f s ∙ e s l ∙ sym (top_one digest g s))
  top_same (suc h) n s z q b =
      by_cases (dec_le n (2 ^ h)) (λ a. top_same h n s z a b)
      (λ a.
      let p : 2 ^ h < n = omega arith in
      by_cases (dec_lt n (2 ^ suc h))
      (λ c.
      let x = top_same h (2 ^ h) s (pow_pos h) (omega arith) (ends_left h n s p q b) in
      let y = top_same h (n - 2 ^ h) (behind h s) (omega arith) (omega arith) (ends_right h n s p q b) in
      top_above digest f h n s p c
      ∙ ap digest (sides_tops digest f h n s p q ∙ ap₂ (λ (u w : List ℕ). u ++ w) x y ∙ sym (sides_tops digest g h n s p q))
      ∙ sym (top_above digest g h n s p c))
      (λ c.
      let k : n ≡ 2 ^ suc h = omega arith in
      let l : top (suc h) s < m = omega (arith, ap size_of k ∙ size_power (suc h), pow_pos h) in
      rw k (top_peak digest f (suc h) s ∙ e (top (suc h) s) l ∙ sym (top_peak digest g (suc h) s))))

  top_at : (n s : ℕ) → 0 < n → Ends n s → on_top digest f n s ≡ on_top digest g n s
  top_at n s p b = top_same (height_of n) n s p (height_holds n) b

  record Same (v : View) (n s : ℕ) : Type 0 where
    seen : seen_by digest f v n s ≡ seen_by digest g v n s
    breaks : broken_by digest f v n s ≡ broken_by digest g v n s
    gives : gives_by digest f v n s ≡ gives_by digest g v n s

  same_by : (v : View) (n s : ℕ) → 0 < n → ViewOf n v → Ends n s → Same v n s
  same_by given n s p o b = record { seen = refl; breaks = refl; gives = ap (λ (x : List ℕ). x ∷ []) (top_at n s p b) }
  same_by asked n s p o b = record { seen = refl; breaks = refl; gives = refl }
  same_by (both l r) n s p o b =
      let h = side n in
      let i = side_below n o.0 in
      let q = side_holds n o.0 in
      let x = same_by l (2 ^ h) s (pow_pos h) o.1 (ends_left h n s i q b) in
      let y = same_by r (n - 2 ^ h) (behind h s) (omega arith) o.2 (ends_right h n s i q b) in
      let c : sides digest f h n s ≡ sides digest g h n s =
      sides_tops digest f h n s i q
      ∙ ap₂ (λ (u w : List ℕ). u ++ w) (top_at (2 ^ h) s (pow_pos h) (ends_left h n s i q b))
      (top_at (n - 2 ^ h) (behind h s) (omega arith) (ends_right h n s i q b))
      ∙ sym (sides_tops digest g h n s i q) in
      record {
        seen = rw (c, x.seen, y.seen);
        breaks = rw (broken_top_lem digest f h n s i q, broken_top_lem digest g h n s i q, top_at n s p b, c, x.breaks, y.breaks);
        gives = rw (x.gives, y.gives);
      }

module _ (digest : List ℕ → List ℕ) (f g : ℕ → List ℕ) (n : ℕ) (e : (p : ℕ) → p < size_of n → f p ≡ g p) (some : 0 < n) where
  -- what stands on top
  pub top_local : on_top digest f n 0 ≡ on_top digest g n 0
  top_local = top_at digest f g (size_of n) e n 0 some (omega arith)

  module _ (v : View) (o : ViewOf n v) where
    same : Same digest f g (size_of n) e v n 0
    same = same_by digest f g (size_of n) e v n 0 some o (omega arith)

    -- what is shown, whether a node looked into is broken, and what is given
    pub seen_local : seen_by digest f v n 0 ≡ seen_by digest g v n 0
    seen_local = same.seen

    pub broken_local : broken_by digest f v n 0 ≡ broken_by digest g v n 0
    broken_local = same.breaks

    pub gives_local : gives_by digest f v n 0 ≡ gives_by digest g v n 0
    gives_local = same.gives
