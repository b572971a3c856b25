-- A walk over a whole log: the room that it has, and what is answered within the limits and beyond them.
use mathlib.Core.Path.{◌≡◌, ap, ◌∙◌}
use mathlib.Core.List.{List}
use Prim.Native.Nat.{ℕ, ◌^◌, ◌≤◌, ◌<◌}
use native.Mathlib.Omega.{arith}
use lib.ListN.{length}
use lib.Pow.{pow_mono}
use Rattle.shape.specs.Sizes.{height_of}
use Rattle.shape.specs.Tree.{root, inputs}
use Rattle.shape.specs.Difference.{difference}
use Rattle.shape.proofs.Heights.{height_holds, height_least}
use Rattle.views.specs.View.{View, plant_at}
use Rattle.views.specs.Passage.{passage_in, passage}
use Rattle.views.specs.Shows.{seen_by, broken_by}
use Rattle.views.proofs.Passages.{passage_any}
use Rattle.nodes.specs.Nodes.{node_in}
use Rattle.inputs.specs.Inputs.{told}
use Rattle.wire.specs.Slices.{bit}
use Rattle.passage.proofs.Digests.{within_yes, within_no, countable}
use Rattle.passage_walk.specs.declared.Part.{Part}
use Rattle.passage_walk.specs.Outcome.{walk_none, walk_done, walk_outcome}
use Rattle.passage_walk.specs.Steps.{Walkable, Walked}

module _ (n : ℕ) (is : List ℕ) where
  module _ (p : 0 < n) (q : n ≤ 2 ^ 32) (r : length is ≤ 256) (h : ℕ) (e : h ≡ height_of n) where
    -- no sum wraps
    pub whole_room : Walkable h n is (record { leaf = 0; node = 0; asked = 0; used = 0 })
    whole_room =
        let low : h ≤ 32 = omega (arith, height_least n 32 q) in
        record {
          countable = countable n is p q r h e;
          some = p;
          most = rw e (height_holds n);
          near = omega (arith, pow_mono {i = h} {j = 32} low);
          leaves = omega arith;
          items = omega arith;
        }

    -- what a walk from the height of n leaves finds
    pub whole : (digest : List ℕ → List ℕ) (bs leaves items : List ℕ) {w : Part}
        → Walked digest bs leaves items h n is (record { leaf = 0; node = 0; asked = 0; used = 0 }) w
        → record { log = w.log.bytes; letter = w.letter.bytes; broken = bit w.broken; first = told w.difference }
        ≡ walk_done digest (node_in bs) n is leaves items
    whole digest bs leaves items {w} o =
        let v : passage_in h n 0 is ≡ passage n is = passage_any h n is (rw e (height_holds n)) in
        let a = o.taken.ours in
        let b = o.taken.theirs ∙ ap (λ (x : View). root digest (plant_at (node_in leaves) (node_in items) x 0 0)) v in
        let c = o.found.sound ∙ ap (λ (x : View). broken_by digest (node_in bs) x n 0) v in
        let d = o.found.differs
        ∙ ap (λ (x : View). difference (seen_by digest (node_in bs) x n 0) (inputs digest (plant_at (node_in leaves) (node_in items) x 0 0))) v in
        λ j. record { log = a j; letter = b j; broken = c j; first = d j }

  module _ (digest : List ℕ → List ℕ) (node : ℕ → List ℕ) (leaves items : List ℕ) where
    -- within the limits
    pub walk_inside : 0 < n → n ≤ 2 ^ 32 → length is ≤ 256 → walk_outcome digest node n is leaves items ≡ walk_done digest node n is leaves items
    unfolding walk_outcome
    walk_inside p q r = rw (within_yes n is p q r, walk_outcome)

    -- beyond them
    pub walk_beyond : (0 < n → n ≤ 2 ^ 32 → length is ≤ 256 → ⊥) → walk_outcome digest node n is leaves items ≡ walk_none
    unfolding walk_outcome
    walk_beyond h = rw (within_no n is h, walk_outcome)
