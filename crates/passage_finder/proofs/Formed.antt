-- A letter that was taken apart: what the walk and the log's own records then tell of the letter; and where taking it apart refused, so does the
-- finder.
use mathlib.Core.Path.{◌≡◌, sym, ap, ap₂, ◌∙◌}
use mathlib.Core.List.{List}
use Prim.Native.Nat.{ℕ, ◌-◌, ◌<◌}
use native.Mathlib.Omega.{arith}
use lib.ListN.{length, take, drop}
use Rattle.wire.specs.Slices.{bit}
use Rattle.wire.proofs.Lists.{rest_all}
use Rattle.digest.specs.Digest.{digest_in, digest_length}
use Rattle.order.specs.Order.{verdict, first_number}
use Rattle.order.proofs.Laws.{refused_by}
use Rattle.shape.specs.Tree.{Tree, root, inputs}
use Rattle.shape.specs.Difference.{difference}
use Rattle.shape.specs.Positions.{peaks}
use Rattle.shape.specs.Sizes.{leaves}
use Rattle.shape.proofs.Counting.{Counts}
use Rattle.nodes.specs.Nodes.{node_in}
use Rattle.views.specs.Passage.{passage}
use Rattle.views.specs.Shows.{on_top, seen_by, broken_by}
use Rattle.inputs.specs.Inputs.{told}
use Rattle.letter_finder.specs.Outcome.{own_root}
use Rattle.findings.specs.Outcome.{NamedOutcome, named_refused}
use Rattle.passage.specs.Bytes.{places, indexes_in, end_in}
use Rattle.passage.specs.Digests.{worked_root}
use Rattle.passage.specs.Checking.{fields_order}
use Rattle.passage_fields.specs.declared.Fields.{Fields}
use Rattle.passage_fields.specs.Fields.{fields_refused, fields_taken, fields_outcome}
use Rattle.passage_fields.proofs.Apart.{apart, apart_number}
use Rattle.passage_fields.proofs.Fits.{fits_within}
use Rattle.passage_fields.proofs.Places.{places_count, indexes_count}
use Rattle.passage_root.specs.Root.{leaf_digests}
use Rattle.passage_root.proofs.Hashed.{leaf_in_lem}
use Rattle.passage_root.proofs.Letter.{tree_worked}
use Rattle.passage_walk.specs.declared.Trail.{Trail}
use Rattle.passage_walk.specs.Outcome.{WalkOutcome, walked_off, walk_done, walk_outcome}
use Rattle.passage_walk.proofs.Whole.{walk_inside}
use Rattle.passage_finder.specs.Outcome.{first_difference}
use Rattle.passage_finder.specs.Steps.{OwnOutcome, own_outcome, Beside, Formed}

-- ---- taken apart

module _ {size n : ℕ} (letter : List ℕ) (count : Counts size n) where
  pub formed : {f : Fields} → fields_taken f ≡ fields_outcome size n letter → 0 < n → Formed n letter f
  formed e some =
      let a = apart size n letter e in
      record {
        some = some;
        most = count.most;
        few = a.fits.few;
        inside = fits_within size n letter a.fits;
        count = a.count;
        end = a.end;
        indexes_long = a.indexes_long;
        indexes = a.indexes_are;
        places_long = a.places_long;
        places = a.places_are;
      }

  -- a refusal of its order
  pub refused_fields : (first second : List ℕ) (done : NamedOutcome) {k : ℕ} → 0 < k → fields_refused k ≡ fields_outcome size n letter
      → named_refused first second k ≡ verdict (named_refused first second) (fields_order size (leaves size) letter) done
  refused_fields first second done {k} h e =
      let m : k ≡ first_number (fields_order size (leaves size) letter) = rw count.value (apart_number size n letter e) in
      ap (named_refused first second) m
      ∙ sym (refused_by (named_refused first second) done (fields_order size (leaves size) letter) (λ z. omega arith))

-- ---- its parts, as the code has them

module _ {n : ℕ} {letter : List ℕ} {f : Fields} (a : Formed n letter f) (mode : List ℕ) where
  abbrev is : List ℕ
  is = take f.count f.indexes

  abbrev ps : List ℕ
  ps = take f.count f.places

  -- at most 256 of each, with the digests of the records
  pub beside : {ls : List ℕ} → ls ≡ leaf_digests (digest_in mode) letter ps → Beside (digest_in mode) is ps letter ls
  beside l =
      let i : length is ≡ _ = ap length a.indexes ∙ indexes_count letter in
      let p : length ps ≡ _ = ap length a.places ∙ places_count letter in
      record {
        many = p ∙ sym i;
        few = omega (arith, i, a.few);
        leaf = λ k h. ap (λ (x : List ℕ). node_in x k) l ∙ leaf_in_lem (digest_in mode) (digest_length mode) letter ps k h (omega (arith, p, a.few));
      }

  -- what the walk finds in the nodes bs
  pub record Whole (bs : List ℕ) (w : Trail) : Type 0 where
    pub log : w.log.bytes ≡ own_root (digest_in mode) (node_in bs) n
    pub worked : w.letter.bytes ≡ worked_root (digest_in mode) n letter
    pub broken : bit w.broken ≡ broken_by (digest_in mode) (node_in bs) (passage n (indexes_in letter)) n 0
    pub first : told w.difference ≡ first_difference (digest_in mode) (node_in bs) n letter

  pub whole : (bs : List ℕ) {ls : List ℕ} {w : Trail} → ls ≡ leaf_digests (digest_in mode) letter ps
      → walked_off w ≡ walk_outcome (digest_in mode) (node_in bs) n is ls (take (length letter - f.end) (drop f.end letter)) → Whole bs w
  unfolding on_top peaks worked_root
  whole bs {ls} {w} l o =
      let d = digest_in mode in
      let node = node_in bs in
      let xs = drop (end_in letter) letter in
      let t : walked_off w ≡ walk_done d node n (indexes_in letter) (leaf_digests d letter (places letter)) xs =
      o
      ∙ ap₂ (λ (us vs : List ℕ). walk_outcome d node n us ls vs) a.indexes (rest_all f.end letter ∙ ap (λ (at : ℕ). drop at letter) a.end)
      ∙ ap (λ (us : List ℕ). walk_outcome d node n (indexes_in letter) us xs) (l ∙ ap (leaf_digests d letter) a.places)
      ∙ walk_inside n (indexes_in letter) d node _ xs a.some a.most (omega (arith, indexes_count letter, a.few)) in
      let s = tree_worked d (digest_length mode) n letter a.some a.most (omega (arith, places_count letter, a.few)) in
      record {
        log = ap (λ (x : WalkOutcome). x.log) t;
        worked = ap (λ (x : WalkOutcome). x.letter) t ∙ ap (root d) s;
        broken = ap (λ (x : WalkOutcome). x.broken) t;
        first = ap (λ (x : WalkOutcome). x.first) t
            ∙ ap (λ (x : Tree). difference (seen_by d node (passage n (indexes_in letter)) n 0) (inputs d x)) s;
      }

  -- what is known of the log's own records
  pub own_whole : (bs records lengths : List ℕ) {o : OwnOutcome} → o ≡ own_outcome (digest_in mode) (node_in bs) is ps records lengths letter
      → o ≡ own_outcome (digest_in mode) (node_in bs) (indexes_in letter) (places letter) records lengths letter
  own_whole bs records lengths e =
      e ∙ ap₂ (λ (us vs : List ℕ). own_outcome (digest_in mode) (node_in bs) us vs records lengths letter) a.indexes a.places
