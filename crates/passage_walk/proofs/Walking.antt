-- A walk one height after the other: what it may ask of the height below, and what it finds from below. `half` stands for 2 ^ (h - 1) as the code has
-- it.
use mathlib.Core.Path.{◌≡◌, refl, subst, ◌∙◌}
use mathlib.Core.List.{List}
use Prim.Native.Nat.{ℕ, ◌+◌, ◌-◌, ◌*◌, ◌^◌, ◌≤◌, ◌<◌}
use native.Mathlib.Omega.{arith}
use lib.ListN.{length, length-take, length-drop, take, drop}
use lib.Pow.{pow_mono}
use Rattle.shape.proofs.Powers.{Halved}
use Rattle.views.specs.Passage.{under, passage_in}
use Rattle.views.proofs.Bounds.{passage_few, passage_asks_most}
use Rattle.views.proofs.Sides.{top_any}
use Rattle.wire.proofs.Lists.{rest_all}
use Rattle.views.proofs.Heights.{passage_empty, passage_one, passage_below, passage_sides}
use Rattle.views.proofs.Walks.{taken_given, found_given, taken_asked, found_asked, taken_fork, found_fork}
use Rattle.nodes.specs.Nodes.{node_in}
use Rattle.nodes.proofs.From.{from_any}
use Rattle.inputs.specs.Inputs.{told}
use Rattle.wire.specs.Slices.{bit}
use Rattle.passage.proofs.Steps.{countable_low, countable_left, countable_right}
use Rattle.passage_walk.specs.declared.Part.{Part}
use Rattle.passage_walk.specs.declared.Place.{Place}
use Rattle.passage_walk.specs.Steps.{Joinable, Joined, next, Passable, Given, Asked, Walkable, Walked}

-- the indexes from number k on, as the code has them
abbrev after : ℕ → List ℕ → List ℕ
after k is = take (length is - k) (drop k is)

-- ---- what it may ask

module _ (h n : ℕ) (is : List ℕ) (at : Place) {half : ℕ} (t : Halved h half) (c : Walkable h n is at) where
  falls : 8192 * h ≡ 8192 + 8192 * (h - 1)
  falls = omega (arith, t.below)

  pub walkable_low : n ≤ half → Walkable (h - 1) n is at
  walkable_low q =
      record {
        countable = countable_low h at.leaf is t c.countable;
        some = c.some;
        most = omega (arith, t.is);
        near = omega (arith, t.is, t.whole, c.near);
        leaves = omega (arith, falls, c.leaves);
        items = omega (arith, falls, c.items);
      }

  pub walkable_left : (k : ℕ) → Walkable (h - 1) half (take k is) at
  walkable_left k =
      record {
        countable = countable_left h at.leaf is k t c.countable;
        some = t.some;
        most = omega (arith, t.is);
        near = omega (arith, t.is, t.whole, c.near);
        leaves = omega (arith, falls, c.leaves);
        items = omega (arith, falls, c.items);
      }

  module _ (digest : List ℕ → List ℕ) (bs leaves items : List ℕ) (k : ℕ) (q : half < n) (l : Part)
      (e : Walked digest bs leaves items (h - 1) half (take k is) at l) where
    few_lefts : (l.asked ≤ 8192) × (l.used ≤ 8192)
    few_lefts =
        let m : length (take k is) ≤ 256 = rw length-take (omega (arith, c.countable.few)) in (
          omega (arith, e.taken.asks, passage_asks_most (h - 1) half at.leaf (take k is)),
          omega (arith, e.taken.uses, passage_few (h - 1) half at.leaf (take k is) (omega (arith, c.countable.low)) m),
        )

    pub passable : Passable at half l.asked l.used
    passable =
        record {
          some = t.some;
          leaf = omega (arith, t.whole, c.countable.near);
          node = omega (arith, t.whole, c.near);
          leaves = omega (arith, falls, c.leaves, few_lefts);
          items = omega (arith, falls, c.items, few_lefts);
        }

    abbrev beyond : Place
    beyond = next at half l.asked l.used

    pub walkable_right : {x : Place} → x ≡ beyond → Walkable (h - 1) (n - half) (after k is) x
    walkable_right u =
        rw u (record {
          countable = countable_right h at.leaf is k t c.countable;
          some = omega arith;
          most = omega (arith, t.is, t.whole, c.most);
          near = omega (arith, t.is, t.whole, c.near);
          leaves = omega (arith, falls, c.leaves, few_lefts);
          items = omega (arith, falls, c.items, few_lefts);
        })

    pub joinable : {x : Place} (r : Part) → Walked digest bs leaves items (h - 1) (n - half) (after k is) x r → Joinable l r
    joinable {x} r f =
        let m : length (after k is) ≤ 256 = rw (rest_all k is, length-drop) (omega (arith, c.countable.few)) in
        record {
          lefts = few_lefts;
          rights = (
            omega (arith, f.taken.asks, passage_asks_most (h - 1) (n - half) x.leaf (after k is)),
            omega (arith, f.taken.uses, passage_few (h - 1) (n - half) x.leaf (after k is) (omega (arith, c.countable.low)) m),
          );
        }

-- ---- what it finds

module _ (digest : List ℕ → List ℕ) (bs leaves items : List ℕ) (h n : ℕ) (is : List ℕ) (at : Place) where
  pub walked_none : (w : Part) → Walkable h n is at → length is ≡ 0 → Given digest bs items n at w → Walked digest bs leaves items h n is at w
  walked_none w c z g =
      let v = passage_empty h n at.leaf is z in
      let few : n ≤ 2 ^ 32 = let m : 2 ^ h ≤ 2 ^ 32 = pow_mono {i = h} {j = 32} c.countable.low in omega (arith, c.most) in
      let u =
      g.log ∙ from_any digest bs n at.node h c.most c.some few (omega (arith, c.near))
      ∙ top_any digest (node_in bs) h n at.node c.most in
      record {
        taken = rw (v, g.asked, g.used, u, g.letter)
            (taken_given digest (node_in bs) (node_in leaves) (node_in items) n at.node at.asked at.used);
        found = rw (v, g.broken, g.first) (found_given digest (node_in bs) (node_in leaves) (node_in items) n at.node at.asked at.used);
      }

  pub walked_leaf : (w : Part) → Walkable h n is at → h ≡ 0 → 0 < length is → Asked bs leaves at w → Walked digest bs leaves items h n is at w
  walked_leaf w c z q g =
      let v = passage_one h n at.leaf is z q in
      let one : n ≡ 1 = let y : 2 ^ h ≡ 1 = rw z in omega (arith, c.most, c.some) in
      record {
        taken = rw (v, g.asked, g.used, g.log, g.letter)
            (taken_asked digest (node_in bs) (node_in leaves) (node_in items) n at.node at.asked at.used one);
        found = rw (v, g.broken, g.first) (found_asked digest (node_in bs) (node_in leaves) (node_in items) n at.node at.asked at.used);
      }

  pub walked_low : {half : ℕ} (w : Part) → Halved h half → n ≤ half → Walked digest bs leaves items (h - 1) n is at w
      → Walked digest bs leaves items h n is at w
  walked_low {half} w t q c =
      let e = passage_below h half t n at.leaf is q in
      record { taken = rw e c.taken; found = rw e c.found }

  module _ (half k : ℕ) (t : Halved h half) (q : half < n) (most : n ≤ 2 ^ h) (some : 0 < length is) (u : k ≡ under (at.leaf + half) is)
      {x : Place} (l r w : Part) (y : x ≡ next at half l.asked l.used)
      (a : Walked digest bs leaves items (h - 1) half (take k is) at l)
      (b' : Walked digest bs leaves items (h - 1) (n - half) (after k is) x r)
      (c' : Joined digest bs half (n - half) x.node l r w) where
    pub walked_fork : Walked digest bs leaves items h n is at w
    walked_fork =
        let o = next at half l.asked l.used in
        let b : Walked digest bs leaves items (h - 1) (n - half) (after k is) o r =
        subst (λ (z : Place). Walked digest bs leaves items (h - 1) (n - half) (after k is) z r) y b' in
        let c : Joined digest bs half (n - half) o.node l r w = subst (λ (z : Place). Joined digest bs half (n - half) z.node l r w) y c' in
        let e = passage_sides h half t n at.leaf is k q some u in
        let m : n ≤ 2 * half = omega (arith, t.whole) in
        let v = passage_in (h - 1) half at.leaf (take k is) in
        let v' = passage_in (h - 1) (n - half) o.leaf (after k is) in
        let f = taken_fork digest (node_in bs) (node_in leaves) (node_in items) h half t n at.node o.node q m refl v v' at.asked at.used
        l.asked l.used r.asked r.used l.log.bytes l.letter.bytes r.log.bytes r.letter.bytes a.taken b.taken
        w.log.bytes c.log.within c.log.above in
        let g = found_fork digest (node_in bs) (node_in leaves) (node_in items) h half t n at.node o.node q m refl v v' at.asked at.used
        l.asked l.used r.asked r.used l.log.bytes l.letter.bytes r.log.bytes r.letter.bytes a.taken b.taken
        w.log.bytes f.ours (bit l.broken) (bit r.broken) (told l.difference) (told r.difference) a.found b.found in
        record { taken = rw (e, c.asked, c.used, c.letter) f; found = rw (e, c.broken, c.first) g }
