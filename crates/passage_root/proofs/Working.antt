-- What working a root out may ask of the height below, and what it finds there.
use mathlib.Core.Path.{◌≡◌, ap, ap₂, ◌∙◌}
use mathlib.Core.List.{List, ◌++◌}
use Prim.Native.Nat.{ℕ, ◌+◌, ◌-◌, ◌*◌, ◌^◌, ◌%◌, ◌≤◌, ◌<◌}
use native.Mathlib.Omega.{arith}
use lib.ListN.{length, length-take, length-drop, take, drop}
use Rattle.digest.specs.Digest.{digest_in}
use Rattle.shape.specs.Tree.{root}
use Rattle.shape.proofs.Powers.{Halved, halved}
use Rattle.nodes.specs.Nodes.{node_in}
use Rattle.views.specs.View.{both, givens, askeds, plant_at}
use Rattle.views.specs.Passage.{under, passage_in}
use Rattle.views.proofs.Bounds.{passage_few, passage_asks_most}
use Rattle.views.proofs.Heights.{passage_empty, passage_one, passage_below, passage_sides}
use Rattle.passage_root.specs.declared.Worked.{Worked}
use Rattle.passage_root.specs.Steps.{AsItStands, Parent, Workable, WorkedOut}

-- ---- what it may ask

-- neither part of the indexes is longer than the whole; the second is a slice from place k on, as the code has it
pub parts_short : (k : ℕ) (is : List ℕ) → (length (take k is) ≤ length is) × (length (take (length is - k) (drop k is)) ≤ length is)
parts_short k is = (omega (arith, length-take k is), omega (arith, length-take (length is - k) (drop k is), length-drop k is))

module _ (h p : ℕ) (is : List ℕ) (i j : ℕ) {half : ℕ} (z : h ≡ 0 → ⊥) (e : half ≡ 2 ^ (h - 1) % 2 ^ 64) (c : Workable h p is i j) where
  pub halves : Halved h half
  halves = halved h half (omega arith) (omega (arith, c.countable.low)) e

  -- the first leaf of the right side
  pub mid_near : p + half ≤ 2 ^ 33
  mid_near = omega (arith, halves.whole, c.countable.near)

  -- what one height more leaves room for
  falls : 8192 * h ≡ 8192 + 8192 * (h - 1)
  falls = omega (arith, halves.below)

  pub room : (i + 8192 ≤ 2 ^ 32) × (j + 8192 ≤ 2 ^ 32)
  room = (omega (arith, falls, c.leaves), omega (arith, falls, c.items))

  -- one side, or all, at the height below
  pub workable_part : {q : ℕ} {vs : List ℕ} {leaf item : ℕ} → q ≤ p + half → length vs ≤ length is → leaf ≤ i + 8192 → item ≤ j + 8192
      → Workable (h - 1) q vs leaf item
  workable_part a b l m =
      record {
        countable =
            record {
              low = omega (arith, c.countable.low);
              near = omega (arith, c.countable.near, halves.is, halves.whole);
              few = omega (arith, c.countable.few);
            };
        leaves = omega (arith, falls, c.leaves);
        items = omega (arith, falls, c.items);
      }

  -- it takes at most 8,192 digests of each kind
  pub part_few : {mode : List ℕ} {n q : ℕ} {vs leaves : List ℕ} {leaf : ℕ} {items : List ℕ} {item : ℕ} {w : Worked} → length vs ≤ length is
      → WorkedOut mode (h - 1) n q vs leaves leaf items item w → (w.asked ≤ 8192) × (w.used ≤ 8192)
  part_few {n = n} {q = q} {vs = vs} b w = (
    omega (arith, w.asked, passage_asks_most (h - 1) n q vs, c.countable.few),
    omega (arith, w.used, passage_few (h - 1) n q vs (omega (arith, c.countable.low)) (omega (arith, c.countable.few))),
  )

-- ---- what it finds

module _ (mode : List ℕ) (h n p : ℕ) (is leaves : List ℕ) (i : ℕ) (items : List ℕ) (j : ℕ) where
  pub worked_none : {w : Worked} → length is ≡ 0 → AsItStands items j 0 1 w → WorkedOut mode h n p is leaves i items j w
  worked_none z a =
      let e = passage_empty h n p is z in
      record { asked = rw e a.asked; used = rw e a.used; root = rw e a.digest }

  pub worked_leaf : {w : Worked} → h ≡ 0 → 0 < length is → AsItStands leaves i 1 0 w → WorkedOut mode h n p is leaves i items j w
  worked_leaf z q a =
      let e = passage_one h n p is z q in
      record { asked = rw e a.asked; used = rw e a.used; root = rw e a.digest }

  pub worked_low : {half : ℕ} {w : Worked} → Halved h half → n ≤ half → WorkedOut mode (h - 1) n p is leaves i items j w
      → WorkedOut mode h n p is leaves i items j w
  worked_low {half} t q c =
      let e = passage_below h half t n p is q in
      record { asked = rw e c.asked; used = rw e c.used; root = rw e c.root }

  -- the two sides worked out
  pub worked_fork : {half : ℕ} (k : ℕ) {l r w : Worked} → Halved h half → half < n → 0 < length is → k ≡ under (p + half) is
      → WorkedOut mode (h - 1) half p (take k is) leaves i items j l
      → WorkedOut mode (h - 1) (n - half) (p + half) (take (length is - k) (drop k is)) leaves (i + l.asked) items (j + l.used) r
      → Parent mode l r w → WorkedOut mode h n p is leaves i items j w
  worked_fork {half} k {r = r} t q s u a b d =
      let v = passage_in (h - 1) half p (take k is) in
      let o = passage_in (h - 1) (n - half) (p + half) (take (length is - k) (drop k is)) in
      let e : passage_in h n p is ≡ both v o = passage_sides h half t n p is k q s u in
      let g : r.digest.bytes ≡ root (digest_in mode) (plant_at (node_in leaves) (node_in items) o (i + askeds v) (j + givens v)) =
      b.root ∙ ap₂ (λ (f g : ℕ). root (digest_in mode) (plant_at (node_in leaves) (node_in items) o (i + f) (j + g))) a.asked a.used in
      record {
        asked = rw e (omega (arith, a.asked, b.asked, d.asked));
        used = rw e (omega (arith, a.used, b.used, d.used));
        root = rw e (d.digest ∙ ap (digest_in mode) (ap₂ (λ (f g : List ℕ). f ++ g) a.root g));
      }
