-- A walk over a whole log: the room that it has, and what is answered within the limits and beyond them.
use mathlib.Core.Path.{◌≡◌, ap, ◌∙◌}
use mathlib.Core.Logic.{by_cases}
use mathlib.Core.List.{List}
use Prim.Native.Nat.{ℕ, suc, ◌^◌, ◌≤◌, ◌<◌}
use native.Mathlib.Decide.{dec_lt}
use native.Mathlib.Omega.{arith}
use borrow.Author.Tests.{lt-ltb, le-ltb, le-leb, lt-leb}
use lib.ListN.{length}
use lib.Pow.{pow_mono}
use Rattle.shape.specs.Sizes.{height_of}
use Rattle.shape.specs.Tree.{root, inputs}
use Rattle.shape.specs.Way.{way_in, way}
use Rattle.shape.specs.Positions.{peaks_in, peaks, fold}
use Rattle.shape.specs.Difference.{difference}
use Rattle.shape.specs.Seen.{seen_in, seen, broken}
use Rattle.shape.proofs.Heights.{height_holds, height_least}
use Rattle.nodes.specs.Nodes.{node_in}
use Rattle.letter_walk.specs.declared.Trail.{Trail}
use Rattle.letter_walk.specs.Outcome.{walked_off, walk_none, walk_done, walk_outcome, broken_outcome}
use Rattle.letter_walk.specs.Steps.{lettered, Walkable, Walked}

-- no sum wraps
pub whole_room : (h n i : ℕ) → h ≡ height_of n → i < n → n ≤ 2 ^ 32 → Walkable h n i 0 0
whole_room h n i e p q =
    let l : h ≤ 32 = omega (arith, height_least n 32 q) in
    let m : n ≤ 2 ^ h = rw e (height_holds n) in
    record { low = l; inside = p; most = m; near = omega (arith, pow_mono {i = h} {j = 32} l); few = omega arith }

-- what a walk from the height of n leaves finds
pub whole : (digest : List ℕ → List ℕ) (bs : List ℕ) (n i : ℕ) (leaf items : List ℕ) {h : ℕ} {w : Trail} → h ≡ height_of n → Walked digest h n i 0 leaf 0 bs items w
    → walked_off w ≡ walk_done digest (node_in bs) n i leaf items
unfolding peaks seen way
whole digest bs n i leaf items {h} {w} e o =
    let a = o.log ∙ ap (λ (k : ℕ). fold digest (node_in bs) (peaks_in (suc k) n 0)) e in
    let b = o.letter ∙ ap (λ (k : ℕ). root digest (lettered k n i leaf 0 items)) e in
    let c = o.used ∙ ap (λ (k : ℕ). length (way_in k n i)) e in
    let d = o.first ∙ ap (λ (k : ℕ). difference (seen_in digest (node_in bs) k n i 0) (inputs digest (lettered k n i leaf 0 items))) e in
    λ j. record { log = a j; letter = b j; used = c j; first = d j }

module _ (digest : List ℕ → List ℕ) (node : ℕ → List ℕ) (n i : ℕ) where
  -- within the limits
  pub walk_inside : (leaf items : List ℕ) → i < n → n ≤ 2 ^ 32 → walk_outcome digest node n i leaf items ≡ walk_done digest node n i leaf items
  unfolding walk_outcome
  walk_inside leaf items p q = rw (lt-ltb i n p, le-leb n (2 ^ 32) q, walk_outcome)

  pub broken_inside : i < n → n ≤ 2 ^ 32 → broken_outcome digest node n i ≡ broken digest node n i
  unfolding broken_outcome
  broken_inside p q = rw (lt-ltb i n p, le-leb n (2 ^ 32) q, broken_outcome)

  -- beyond them
  pub walk_beyond : (leaf items : List ℕ) → (i < n → n ≤ 2 ^ 32 → ⊥) → walk_outcome digest node n i leaf items ≡ walk_none
  unfolding walk_outcome
  walk_beyond leaf items h =
      by_cases (dec_lt i n)
      (λ a.
      let far : 2 ^ 32 < n = by_cases (dec_lt (2 ^ 32) n) (λ c. c) (λ c. absurd (h a (omega arith))) in
      rw (lt-ltb i n a, lt-leb n (2 ^ 32) far, walk_outcome))
      (λ a. rw (le-ltb i n (omega arith), walk_outcome))

  pub broken_beyond : (i < n → n ≤ 2 ^ 32 → ⊥) → broken_outcome digest node n i ≡ 0
  unfolding broken_outcome
  broken_beyond h =
      by_cases (dec_lt i n)
      (λ a.
      let far : 2 ^ 32 < n = by_cases (dec_lt (2 ^ 32) n) (λ c. c) (λ c. absurd (h a (omega arith))) in
      rw (lt-ltb i n a, lt-leb n (2 ^ 32) far, broken_outcome))
      (λ a. rw (le-ltb i n (omega arith), broken_outcome))
