-- The digests of a passage, written one height after the other: the room that each call has, and what it leaves.
-- `half` stands for 2 ^ (h - 1) as the code has it.
use mathlib.Core.Path.{◌≡◌, refl, sym, ap, ap₂, ◌∙◌}
use mathlib.Core.List.{List, ◌++◌}
use Prim.Native.Nat.{ℕ, ◌+◌, ◌-◌, ◌*◌, ◌%◌, ◌^◌, ◌≤◌, ◌<◌}
use native.Mathlib.Omega.{arith}
use lib.ListN.{length, take, drop}
use lib.Pow.{pow_mono}
use Rattle.digest.specs.Digest.{digest_in, digest_length}
use Rattle.wire.specs.Slices.{splice, written, joined}
use Rattle.wire.proofs.Joined.{joined_length, joined_append, joined_one}
use Rattle.wire.proofs.Splices.{splice_none, splice_length, splice_splice, written_fits}
use Rattle.shape.proofs.Powers.{Halved, halved}
use Rattle.nodes.specs.Nodes.{node_in, fold_from}
use Rattle.nodes.proofs.From.{from_any}
use Rattle.nodes.proofs.Joined.{node_length}
use Rattle.views.specs.View.{View, both, givens}
use Rattle.views.specs.Passage.{under, passage_in}
use Rattle.views.specs.Shows.{on_top, gives_by}
use Rattle.views.proofs.Sides.{top_any}
use Rattle.views.proofs.Passages.{passage_view}
use Rattle.views.proofs.Nodes.{gives_exact, gives_32, top_32}
use Rattle.views.proofs.Heights.{passage_empty, passage_one, passage_below, passage_sides, gives_sides}
use Rattle.passage.proofs.Steps.{countable_low, countable_left, countable_right}
use Rattle.passage_digests.specs.Steps.{Puttable, Put}

-- the position behind the left side
abbrev pub middle : ℕ → ℕ → ℕ
middle s half = s + (2 * half - 1)

-- the indexes from place k on, as a slice of them
abbrev rest : ℕ → List ℕ → List ℕ
rest k is = take (length is - k) (drop k is)

-- the bytes of the digests given
abbrev gave_of : List ℕ → List ℕ → View → ℕ → ℕ → List ℕ
gave_of mode bs v n s = joined (gives_by (digest_in mode) (node_in bs) v n s)

-- 32 bytes for each
sized : (mode bs : List ℕ) (h n p : ℕ) (is : List ℕ) (s : ℕ) → 0 < n → n ≤ 2 ^ h
    → length (gave_of mode bs (passage_in h n p is) n s) ≡ 32 * givens (passage_in h n p is)
sized mode bs h n p is s some most =
    let v = passage_in h n p is in
    joined_length (gives_by (digest_in mode) (node_in bs) v n s)
    (gives_32 (digest_in mode) (node_in bs) (digest_length mode) (node_length bs) v n s some (passage_view h n p is some most))
    ∙ ap (λ (k : ℕ). 32 * k) (gives_exact (digest_in mode) (node_in bs) v n s)

module _ {h n p : ℕ} {is : List ℕ} {s at : ℕ} (mode bs d : List ℕ) (c : Puttable h n p is s at (length d)) where
  -- the buffer stays as long as it was
  pub put_length : {next : ℕ} {last : List ℕ} → Put mode bs h n p is s at d next last → length last ≡ length d
  put_length e =
      ap length e.bytes
      ∙ splice_length at (gave_of mode bs (passage_in h n p is) n s) d (omega (arith, sized mode bs h n p is s c.some c.most, c.fits))

  -- a digest
  pub put_given : {top last : List ℕ} → length is ≡ 0 → top ≡ fold_from (digest_in mode) bs n s → last ≡ written at top d
      → Put mode bs h n p is s at d (at + 32) last
  put_given {top} {last} z e f =
      let v = passage_empty h n p is z in
      let few : 2 ^ h ≤ 2 ^ 32 = pow_mono {i = h} {j = 32} c.countable.low in
      let g : top ≡ on_top (digest_in mode) (node_in bs) n s =
      e ∙ from_any (digest_in mode) bs n s h c.most c.some (omega (arith, c.most)) (omega (arith, c.near))
      ∙ top_any (digest_in mode) (node_in bs) h n s c.most in
      let m : length top ≡ 32 = ap length g ∙ top_32 (digest_in mode) (node_in bs) (digest_length mode) (node_length bs) n s c.some in
      let r : at + 32 ≤ length d = omega (arith, rw v at c.fits) in
      record {
        behind = rw v;
        bytes =
            rw v
            (f ∙ written_fits at top d (omega arith)
            ∙ ap (λ (x : List ℕ). splice at x d) (g ∙ sym (joined_one (on_top (digest_in mode) (node_in bs) n s))));
      }

  -- a leaf that is asked for
  pub put_asked : h ≡ 0 → 0 < length is → Put mode bs h n p is s at d at d
  unfolding joined
  put_asked z q =
      let v = passage_one h n p is z q in
      record { behind = rw v (omega arith); bytes = rw v (sym (splice_none at d)) }

-- a call above height 0, with indexes
pub record Above (h n p : ℕ) (is : List ℕ) (s at room half : ℕ) : Type 0 where
  pub some : h ≡ 0 → ⊥
  pub asked : 0 < length is
  pub power : half ≡ 2 ^ (h - 1) % 2 ^ 64
  pub puts : Puttable h n p is s at room

module _ {h n p : ℕ} {is : List ℕ} {s at room half : ℕ} (f : Above h n p is s at room half) where
  halves : Halved h half
  halves = halved h half (omega (arith, f.some)) (omega (arith, f.puts.countable.low)) f.power

  -- no sum wraps
  pub half_bounds : (0 < half) × (s + 4 * half ≤ 2 ^ 34) × (p + 2 * half ≤ 2 ^ 33)
  half_bounds =
      (halves.some, omega (arith, halves.whole, f.puts.near), omega (arith, halves.whole, f.puts.countable.near))

  -- ---- all leaves at the height below

  module _ (q : n ≤ half) where
    pub low_room : Puttable (h - 1) n p is s at room
    low_room =
        let c = f.puts in
        record {
          countable = countable_low h p is halves c.countable;
          some = c.some;
          most = omega (arith, halves.is);
          near = omega (arith, halves, c.near);
          fits = rw (passage_below h half halves n p is q) at c.fits;
        }

    pub low_put : (mode bs d : List ℕ) {next : ℕ} {last : List ℕ} → Put mode bs (h - 1) n p is s at d next last
        → Put mode bs h n p is s at d next last
    low_put mode bs d e =
        let v = passage_below h half halves n p is q in
        record { behind = rw v e.behind; bytes = rw v e.bytes }

  -- ---- leaves on two sides: the k indexes below the first leaf of the right side go left

  module _ (q : half < n) {k : ℕ} (u : k ≡ under (p + half) is) where
    abbrev l : View
    l = passage_in (h - 1) half p (take k is)

    abbrev r : View
    r = passage_in (h - 1) (n - half) (p + half) (rest k is)

    forked : passage_in h n p is ≡ both l r
    forked = passage_sides h half halves n p is k q f.asked u

    fits : at + 32 * (givens l + givens r) ≤ room
    fits = rw forked at f.puts.fits

    pub left_room : Puttable (h - 1) half p (take k is) s at room
    left_room =
        let c = f.puts in
        record {
          countable = countable_left h p is k halves c.countable;
          some = halves.some;
          most = omega (arith, halves.is);
          near = omega (arith, halves, c.near);
          fits = omega (arith, fits);
        }

    module _ (mode bs d : List ℕ) (long : length d ≡ room) {next : ℕ} {m : List ℕ} (a : Put mode bs (h - 1) half p (take k is) s at d next m) where
      pub right_room : Puttable (h - 1) (n - half) (p + half) (rest k is) (middle s half) next (length m)
      right_room =
          let c = f.puts in
          let left : Puttable (h - 1) half p (take k is) s at (length d) = rw long left_room in
          record {
            countable = countable_right h p is k halves c.countable;
            some = omega arith;
            most = omega (arith, halves, c.most);
            near = omega (arith, halves, c.near);
            fits = omega (arith, fits, a.behind, put_length mode bs d left a);
          }

      -- the right side's digests stand behind the left side's
      pub sides_put : {behind : ℕ} {last : List ℕ} → Put mode bs (h - 1) (n - half) (p + half) (rest k is) (middle s half) next m behind last
          → Put mode bs h n p is s at d behind last
      sides_put b =
          let c = f.puts in
          let digest = digest_in mode in
          let mid = middle s half in
          let xs = gave_of mode bs l half s in
          let ys = gave_of mode bs r (n - half) mid in
          let fore : length xs ≡ 32 * givens l = sized mode bs (h - 1) half p (take k is) s left_room.some left_room.most in
          let back : length ys ≡ 32 * givens r = sized mode bs (h - 1) (n - half) (p + half) (rest k is) mid right_room.some right_room.most in
          let e : gave_of mode bs (both l r) n s ≡ xs ++ ys =
          ap joined (gives_sides h half halves digest (node_in bs) l r n s mid q (omega (arith, halves.whole, c.most)) refl)
          ∙ joined_append (gives_by digest (node_in bs) l half s) (gives_by digest (node_in bs) r (n - half) mid) in
          let w : next ≡ at + length xs = omega (arith, a.behind, fore) in
          record {
            behind = rw forked (omega (arith, a.behind, b.behind));
            bytes =
                rw (forked, e)
                (b.bytes ∙ ap₂ (λ (x : ℕ) (y : List ℕ). splice x ys y) w a.bytes ∙ splice_splice at xs ys d (omega (arith, fits, fore, back)));
          }
