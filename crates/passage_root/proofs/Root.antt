-- The root that is worked out: within the limits from the height of n leaves down, and beyond them zeros.
use mathlib.Core.Path.{◌≡◌, sym, ap, ◌∙◌}
use mathlib.Core.List.{List}
use Prim.Native.Nat.{ℕ, ◌^◌, ◌≤◌, ◌<◌}
use native.Mathlib.Omega.{arith}
use lib.ListN.{length}
use Rattle.wire.specs.Slices.{zeros}
use Rattle.digest.specs.Digest.{digest_in}
use Rattle.shape.specs.Sizes.{height_of}
use Rattle.shape.specs.Tree.{root}
use Rattle.shape.proofs.Heights.{height_holds}
use Rattle.nodes.specs.Nodes.{node_in}
use Rattle.views.specs.View.{View, plant_at}
use Rattle.views.specs.Passage.{passage}
use Rattle.views.proofs.Passages.{passage_any}
use Rattle.passage.proofs.Digests.{within_yes, within_no, count_none, count_from, countable}
use Rattle.passage_root.specs.declared.Worked.{Worked}
use Rattle.passage_root.specs.declared.Rooted.{Rooted}
use Rattle.passage_root.specs.Root.{leaf_digests, root_from, RootOf}
use Rattle.passage_root.specs.Steps.{Workable, WorkedOut}

module _ (digest : List ℕ → List ℕ) (n : ℕ) (is letter places items : List ℕ) where
  pub root_beyond : (0 < n → n ≤ 2 ^ 32 → length is ≤ 256 → ⊥) → {r : Rooted} → r.digest.bytes ≡ zeros 32 → r.used ≡ 0
      → RootOf digest n is letter places items r
  unfolding root_from
  root_beyond h e f = record { root_is = e ∙ sym (rw (within_no n is h, root_from)); used_is = f ∙ sym (count_none n is h) }

  pub root_within : 0 < n → n ≤ 2 ^ 32 → length is ≤ 256
      → root_from digest n is letter places items ≡ root digest (plant_at (node_in (leaf_digests digest letter places)) (node_in items) (passage n is) 0 0)
  unfolding root_from
  root_within p q r = rw (within_yes n is p q r, root_from)

module _ (n : ℕ) (is : List ℕ) (p : 0 < n) (q : n ≤ 2 ^ 32) (r : length is ≤ 256) (h : ℕ) (e : h ≡ height_of n) where
  pub workable : Workable h 0 is 0 0
  workable = let c = countable n is p q r h e in record { countable = c; leaves = omega (arith, c.low); items = omega (arith, c.low) }

  pub worked_whole : (mode letter places items : List ℕ) {w : Worked} {o : Rooted}
      → WorkedOut mode h n 0 is (leaf_digests (digest_in mode) letter places) 0 items 0 w → o.digest.bytes ≡ w.digest.bytes → o.used ≡ w.used
      → RootOf (digest_in mode) n is letter places items o
  worked_whole mode letter places items c f g =
      let node = node_in (leaf_digests (digest_in mode) letter places) in
      record {
        root_is =
            f
            ∙ c.root
            ∙ ap (λ (v : View). root (digest_in mode) (plant_at node (node_in items) v 0 0)) (passage_any h n is (rw e (height_holds n)))
            ∙ sym (root_within (digest_in mode) n is letter places items p q r);
        used_is = g ∙ c.used ∙ sym (count_from n is p q r h e);
      }
