-- Whether a node on the way is broken, one height after the other. `half` stands for 2 ^ (h - 1) as the code has it.
use mathlib.Core.Path.{◌≡◌, refl, sym, ap, ap₂, ◌∙◌}
use mathlib.Core.Logic.{◌≢◌, by_cases}
use mathlib.Core.List.{List, ◌++◌}
use Prim.Native.Nat.{ℕ, zero, suc, ◌+◌, ◌-◌, ◌*◌, ◌^◌, ◌≤◌, ◌<◌}
use native.Mathlib.Decide.{ℕ_discrete, dec_lt}
use native.Mathlib.Omega.{arith}
use lib.Pow.{pow_pos}
use borrow.Author.Tests.{eq-eqb, ne_eqb}
use Rattle.wire.specs.Slices.{differ}
use Rattle.wire.proofs.Differences.{differ_same}
use Rattle.shape.specs.Positions.{top, behind}
use Rattle.shape.specs.Seen.{either, broken_in}
use Rattle.shape.proofs.Seen.{top_full, top_fold, sides_full, top_differs, broken_one, broken_low, broken_left, broken_right}
use Rattle.nodes.specs.Nodes.{node_in}
use Rattle.letter_walk.specs.Steps.{top_broken, Walkable}
use Rattle.letter_walk.proofs.Turning.{Above, as_coded}

pub either_none : (x y : ℕ) → x ≡ 0 → y ≡ either x y
either_none x y h = rw h

pub either_some : (x y : ℕ) → x ≢ 0 → 1 ≡ either x y
either_some zero y h = absurd (h refl)
either_some (suc x) y h = refl

-- where the top of a fork and its two children stand, within a peak
module _ (g s : ℕ) where
  top_place : s + (2 * 2 ^ g - 1) + (2 * 2 ^ g - 1) ≡ top (suc g) s
  top_place = omega (arith, pow_pos g)

  left_place : s + (2 * 2 ^ g - 1) - 1 ≡ top g s
  left_place = omega (arith, pow_pos g)

  right_place : s + (2 * 2 ^ g - 1) + (2 * 2 ^ g - 2) ≡ top g (behind g s)
  right_place = omega (arith, pow_pos g)

module _ (digest : List ℕ → List ℕ) (bs : List ℕ) (half rest mid : ℕ) where
  -- above the peaks
  pub top_above : rest ≢ half → top_broken digest bs half rest mid ≡ 0
  unfolding top_broken
  top_above h = rw (ne_eqb rest half h, top_broken)

  -- within one
  pub top_within : rest ≡ half → top_broken digest bs half rest mid
      ≡ differ (node_in bs (mid + (2 * half - 1))) (digest (node_in bs (mid - 1) ++ node_in bs (mid + (2 * half - 2))))
  unfolding top_broken
  top_within h = rw (eq-eqb rest half h, top_broken)

module _ (digest : List ℕ → List ℕ) (bs : List ℕ) (n s : ℕ) where
  -- what the code looks at on top of a fork
  top_is : (g : ℕ) → 2 ^ g < n → n ≤ 2 ^ suc g → top_broken digest bs (2 ^ g) (n - 2 ^ g) (s + (2 * 2 ^ g - 1)) ≡ top_differs digest (node_in bs) g n s
  top_is g p q =
      let mid : ℕ = s + (2 * 2 ^ g - 1) in
      by_cases (ℕ_discrete (n - 2 ^ g) (2 ^ g))
      (λ e.
      let m : n ≡ 2 ^ suc g = omega arith in
      let c = ap₂ (λ (x y : ℕ). node_in bs x ++ node_in bs y) (left_place g s) (right_place g s) in
      top_within digest bs (2 ^ g) (n - 2 ^ g) mid e
      ∙ ap₂ differ (ap (node_in bs) (top_place g s) ∙ sym (top_full digest (node_in bs) g n s m))
      (ap digest (c ∙ sym (sides_full digest (node_in bs) g n s m))))
      (λ e. top_above digest bs (2 ^ g) (n - 2 ^ g) mid e ∙ sym (differ_same _ _ (top_fold digest (node_in bs) g n s p (omega arith))))

module _ (digest : List ℕ → List ℕ) (bs : List ℕ) (n i s r under : ℕ) where
  abbrev LowBreak : ℕ → ℕ → ℕ → Type 0
  LowBreak g h half = n ≤ half → r ≡ broken_in digest (node_in bs) (suc g) n i s → r ≡ broken_in digest (node_in bs) (suc h) n i s

  low_break : (g : ℕ) → LowBreak g (suc g) (2 ^ g)
  low_break g p e = e ∙ sym (broken_low digest (node_in bs) g n i s p)

  abbrev LeftBreak : ℕ → ℕ → ℕ → Type 0
  LeftBreak g h half = Walkable h n i s 0 → half < n → i < half → r ≡ either (top_broken digest bs half (n - half) (s + (2 * half - 1))) under
      → under ≡ broken_in digest (node_in bs) (suc g) half i s → r ≡ broken_in digest (node_in bs) (suc h) n i s

  left_break : (g : ℕ) → LeftBreak g (suc g) (2 ^ g)
  left_break g f p q e u = e ∙ ap₂ either (top_is digest bs n s g p f.most) u ∙ sym (broken_left digest (node_in bs) g n i s p f.most q)

  abbrev RightBreak : ℕ → ℕ → ℕ → Type 0
  RightBreak g h half = Walkable h n i s 0 → half < n → half ≤ i → r ≡ either (top_broken digest bs half (n - half) (s + (2 * half - 1))) under
      → under ≡ broken_in digest (node_in bs) (suc g) (n - half) (i - half) (s + (2 * half - 1)) → r ≡ broken_in digest (node_in bs) (suc h) n i s

  right_break : (g : ℕ) → RightBreak g (suc g) (2 ^ g)
  right_break g f p q e u =
      let b : s + (2 * 2 ^ g - 1) ≡ behind g s = omega arith in
      e
      ∙ ap₂ either (top_is digest bs n s g p f.most) (u ∙ ap (broken_in digest (node_in bs) (suc g) (n - 2 ^ g) (i - 2 ^ g)) b)
      ∙ sym (broken_right digest (node_in bs) g n i s p f.most q f.inside)

  -- as the code has them
  module _ {h half : ℕ} (f : Above h n i s 0 half) where
    pub broke_low : LowBreak (h - 1) h half
    broke_low = as_coded f LowBreak low_break

    pub broke_left : LeftBreak (h - 1) h half
    broke_left = as_coded f LeftBreak left_break

    pub broke_right : RightBreak (h - 1) h half
    broke_right = as_coded f RightBreak right_break

-- a node on top that is broken breaks the way, wherever it leads
module _ (digest : List ℕ → List ℕ) (bs : List ℕ) (n i s : ℕ) where
  abbrev TopBreak : ℕ → ℕ → ℕ → Type 0
  TopBreak g h half = Walkable h n i s 0 → half < n → 1 ≡ top_broken digest bs half (n - half) (s + (2 * half - 1))
      → 1 ≡ broken_in digest (node_in bs) (suc h) n i s

  top_break : (g : ℕ) → TopBreak g (suc g) (2 ^ g)
  top_break g f p e =
      let one : (x : ℕ) → 1 ≡ either (top_broken digest bs (2 ^ g) (n - 2 ^ g) (s + (2 * 2 ^ g - 1))) x =
      λ x. either_some (top_broken digest bs (2 ^ g) (n - 2 ^ g) (s + (2 * 2 ^ g - 1))) x (λ z. omega arith) in
      by_cases (dec_lt i (2 ^ g)) (λ q. left_break digest bs n i s 1 _ g f p q (one _) refl)
      (λ q. right_break digest bs n i s 1 _ g f p (omega arith) (one _) refl)

  pub broke_top : {h half : ℕ} → Above h n i s 0 half → TopBreak (h - 1) h half
  broke_top f = as_coded f TopBreak top_break

-- at no height there is one leaf
pub broke_none : (digest : List ℕ → List ℕ) (bs : List ℕ) (n i s h : ℕ) → h ≡ 0 → Walkable h n i s 0 → 0 ≡ broken_in digest (node_in bs) (suc h) n i s
broke_none digest bs n i s zero z f = sym (broken_one digest (node_in bs) n i s f.most f.inside)
broke_none digest bs n i s (suc h) z f = absurd (omega arith)
