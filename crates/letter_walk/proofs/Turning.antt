-- The walk, one height after the other: the room that each call has, and what is found with one more turn above. `half` stands for 2 ^ (h - 1) as
-- the code has it.
use mathlib.Core.Path.{◌≡◌, refl, sym, ap, ◌∙◌, subst}
use mathlib.Core.List.{List}
use Prim.Native.Nat.{ℕ, zero, suc, ◌+◌, ◌-◌, ◌*◌, ◌%◌, ◌^◌, ◌≤◌, ◌<◌}
use native.Mathlib.Omega.{arith}
use lib.ListN.{length}
use lib.Pow.{pow_mono}
use Rattle.shape.specs.Way.{way_in}
use Rattle.shape.specs.Positions.{top, behind, peaks_in, fold}
use Rattle.shape.specs.Difference.{agree, difference}
use Rattle.shape.specs.Seen.{seen_in}
use Rattle.shape.proofs.Powers.{Halved, halved}
use Rattle.shape.proofs.Ways.{way_low, way_left, way_right, way_past, way_most}
use Rattle.shape.proofs.Peaks.{peaks_low, peaks_full}
use Rattle.shape.proofs.Seen.{seen_low, seen_left, seen_right}
use Rattle.nodes.specs.Nodes.{node_in, fold_from}
use Rattle.nodes.proofs.From.{from_any}
use Rattle.letter.proofs.Sides.{side_left, side_right, side_past}
use Rattle.inputs.specs.declared.Input.{Input}
use Rattle.letter_walk.specs.declared.Trail.{Trail}
use Rattle.inputs.specs.Inputs.{bytes_of, told}
use Rattle.letter_walk.specs.Steps.{crown, OneFork, Walkable, Walked}
use Rattle.letter_walk.proofs.Inputs.{inputs_left, inputs_right, inputs_past}
use Rattle.letter_walk.proofs.Forks.{sides_are, walked}

-- ---- the room that each call has

-- above height 0
pub record Above (h n i s from half : ℕ) : Type 0 where
  pub some : h ≡ 0 → ⊥
  pub power : half ≡ 2 ^ (h - 1) % 2 ^ 64
  pub fits : Walkable h n i s from

module _ {h n i s from half : ℕ} (f : Above h n i s from half) where
  halves : Halved h half
  halves = halved h half (omega (arith, f.some)) (omega (arith, f.fits.low)) f.power

  pub low_room : n ≤ half → Walkable (h - 1) n i s from
  low_room p =
      record {
        low = omega (arith, f.fits.low);
        inside = f.fits.inside;
        most = omega (arith, halves.is);
        near = omega (arith, halves, f.fits.near);
        few = omega (arith, f.fits.few);
      }

  pub left_room : i < half → Walkable (h - 1) half i s from
  left_room p =
      record {
        low = omega (arith, f.fits.low);
        inside = p;
        most = omega (arith, halves.is);
        near = omega (arith, halves, f.fits.near);
        few = omega (arith, f.fits.few);
      }

  -- to the right, with items from another number on
  pub right_room : (k : ℕ) → k ≤ from + 1 → half < n → half ≤ i → Walkable (h - 1) (n - half) (i - half) (s + (2 * half - 1)) k
  right_room k l p q =
      record {
        low = omega (arith, f.fits.low);
        inside = omega (arith, f.fits.inside);
        most = omega (arith, halves, f.fits.most);
        near = omega (arith, halves, f.fits.near);
        few = omega (arith, f.fits.few, f.some);
      }

  -- a walk below takes few items
  pub fork_room : {used : ℕ} (m j : ℕ) → used ≡ length (way_in (h - 1) m j) → used ≤ 64
  fork_room m j e = omega (arith, way_most (h - 1) m j, f.fits.low, e)

-- ---- what is found

-- a law of g, h and half that holds at g, one above it, and 2 ^ g holds as the code has them
pub as_coded : {h n i s from half : ℕ} → Above h n i s from half → (S : ℕ → ℕ → ℕ → Type 0) → ((g : ℕ) → S g (suc g) (2 ^ g)) → S (h - 1) h half
as_coded {h = h} {half = half} f S law =
    subst (λ (k : ℕ). S (h - 1) k half) (sym (halves f).below) (subst (λ (x : ℕ). S (h - 1) (suc (h - 1)) x) (sym (halves f).is) (law (h - 1)))

module _ (digest : List ℕ → List ℕ) (bs items leaf : List ℕ) (n i s from : ℕ) (low w : Trail) (ours theirs : Input) where
  -- a fork of half leaves and the rest
  abbrev Forked : ℕ → Type 0
  Forked half = OneFork digest low (crown bs half (n - half) (s + (2 * half - 1)) (digest (bytes_of ours))) ours theirs w

  abbrev LeftTurn : ℕ → ℕ → ℕ → Type 0
  LeftTurn g h half = Walkable h n i s from → half < n → i < half → Walked digest g half i s leaf from bs items low
      → ours.left.bytes ≡ low.log.bytes → ours.right.bytes ≡ fold_from digest bs (n - half) (s + (2 * half - 1))
      → theirs.left.bytes ≡ low.letter.bytes → theirs.right.bytes ≡ node_in items (from + low.used)
      → Forked half → Walked digest h n i s leaf from bs items w

  left_turn : (g : ℕ) → LeftTurn g (suc g) (2 ^ g)
  unfolding node_in
  left_turn g f p q o el er tl tr j =
      let v = way_left g n i p q in
      let most : 2 ^ g ≤ 2 ^ 31 = pow_mono {i = g} {j = 31} (omega (arith, f.low)) in
      let r : ours.right.bytes ≡ fold digest (node_in bs) (peaks_in (suc g) (n - 2 ^ g) (s + (2 * 2 ^ g - 1))) =
      er ∙ from_any digest bs (n - 2 ^ g) (s + (2 * 2 ^ g - 1)) g
      (omega (arith, f.most)) (omega arith) (omega (arith, f.most)) (omega (arith, f.near)) in
      let t : top g s ≡ s + (2 * 2 ^ g - 1) - 1 = omega arith in
      let l : ours.left.bytes ≡ node_in bs (s + (2 * 2 ^ g - 1) - 1) =
      el ∙ o.log ∙ ap (fold digest (node_in bs)) (peaks_full g (2 ^ g) s refl) ∙ ap (node_in bs) t in
      let d = side_left digest leaf items from v (o.used, tl ∙ o.letter) tr (j.used, j.letter) in
      walked digest bs g n s p f.most i leaf from items low w ours theirs _ _
      (sides_are digest bs g n s p f.most ours l r)
      (seen_left digest (node_in bs) g n i s p q)
      d
      (inputs_left digest leaf items from low.used _ _ _ _ v o.used (tl ∙ o.letter) tr)
      o.first j

  -- a walk to the right begins behind the left side
  right_walk : (g k : ℕ) → Walked digest g (n - 2 ^ g) (i - 2 ^ g) (s + (2 * 2 ^ g - 1)) leaf k bs items low
      → Walked digest g (n - 2 ^ g) (i - 2 ^ g) (behind g s) leaf k bs items low
  right_walk g k o =
      let b : s + (2 * 2 ^ g - 1) ≡ behind g s = omega arith in
      subst (λ (m : ℕ). Walked digest g (n - 2 ^ g) (i - 2 ^ g) m leaf k bs items low) b o

  abbrev WithinTurn : ℕ → ℕ → ℕ → Type 0
  WithinTurn g h half = Walkable h n i s from → half < n → half ≤ i → n - half ≡ half
      → Walked digest g (n - half) (i - half) (s + (2 * half - 1)) leaf from bs items low
      → ours.left.bytes ≡ node_in bs (s + (2 * half - 1) - 1) → ours.right.bytes ≡ low.log.bytes
      → theirs.left.bytes ≡ node_in items (from + low.used) → theirs.right.bytes ≡ low.letter.bytes
      → Forked half → Walked digest h n i s leaf from bs items w

  within_turn : (g : ℕ) → WithinTurn g (suc g) (2 ^ g)
  unfolding node_in
  within_turn g f p q e o el er tl tr j =
      let v = way_right g n i (omega arith) q in
      let d = side_right digest leaf items from v (o.used, tr ∙ o.letter) tl (j.used, j.letter) in
      let u = right_walk g from o in
      walked digest bs g n s p f.most i leaf from items low w ours theirs _ _
      (sides_are digest bs g n s p f.most ours el (er ∙ o.log))
      (seen_right digest (node_in bs) g n i s p q)
      d
      (inputs_right digest leaf items from low.used _ _ _ _ v o.used (tr ∙ o.letter) tl)
      u.first j

  abbrev PastTurn : ℕ → ℕ → ℕ → Type 0
  PastTurn g h half = Walkable h n i s from → half < n → half ≤ i → (n - half ≡ half → ⊥)
      → Walked digest g (n - half) (i - half) (s + (2 * half - 1)) leaf (from + 1) bs items low
      → ours.left.bytes ≡ node_in bs (s + (2 * half - 1) - 1) → ours.right.bytes ≡ low.log.bytes
      → theirs.left.bytes ≡ node_in items from → theirs.right.bytes ≡ low.letter.bytes
      → Forked half → Walked digest h n i s leaf from bs items w

  past_turn : (g : ℕ) → PastTurn g (suc g) (2 ^ g)
  unfolding node_in
  past_turn g f p q e o el er tl tr j =
      let v = way_past g n i p (omega (arith, f.most)) q in
      let d = side_past digest leaf items from v (o.used, tr ∙ o.letter) tl (j.used, j.letter) in
      let u = right_walk g (from + 1) o in
      walked digest bs g n s p f.most i leaf from items low w ours theirs _ _
      (sides_are digest bs g n s p f.most ours el (er ∙ o.log))
      (seen_right digest (node_in bs) g n i s p q)
      d
      (inputs_past digest leaf items from low.used _ _ _ _ v (tr ∙ o.letter) tl)
      u.first j

  -- as the code has them
  module _ {h half : ℕ} (f : Above h n i s from half) where
    pub turned_left : LeftTurn (h - 1) h half
    turned_left = as_coded f LeftTurn left_turn

    pub turned_within : WithinTurn (h - 1) h half
    turned_within = as_coded f WithinTurn within_turn

    pub turned_past : PastTurn (h - 1) h half
    turned_past = as_coded f PastTurn past_turn

-- no turn at a height
module _ (digest : List ℕ → List ℕ) (bs items leaf : List ℕ) (n i s from : ℕ) (w : Trail) where
  abbrev LowTurn : ℕ → ℕ → ℕ → Type 0
  LowTurn g h half = n ≤ half → Walked digest g n i s leaf from bs items w → Walked digest h n i s leaf from bs items w

  low_turn : (g : ℕ) → LowTurn g (suc g) (2 ^ g)
  low_turn g p o =
      let e = way_low g n i p in
      record {
        used = rw e o.used;
        log = rw (peaks_low g n s p) o.log;
        letter = rw e o.letter;
        first = rw (e, seen_low digest (node_in bs) g n i s p) o.first;
      }

  pub turned_low : {h half : ℕ} → Above h n i s from half → LowTurn (h - 1) h half
  turned_low f = as_coded f LowTurn low_turn

  -- at no height there is one leaf
  pub turned_none : (h : ℕ) → h ≡ 0 → Walkable h n i s from → w.used ≡ 0 → w.log.bytes ≡ node_in bs s → w.letter.bytes ≡ leaf
      → told w.difference ≡ agree → Walked digest h n i s leaf from bs items w
  unfolding way_in seen_in difference
  turned_none zero z f u l t d =
      let e : top 0 s ≡ s = omega arith in
      record {
        used = u;
        log = rw (peaks_full 0 n s (omega (arith, f.inside, f.most)), e) l;
        letter = t;
        first = d;
      }
  turned_none (suc h) z f u l t d = absurd (omega arith)
