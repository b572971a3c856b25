-- A letter that was taken apart: its slices compared are the letter compared; and where taking it apart refused, so does the finder.
use mathlib.Core.Path.{◌≡◌, sym, ap, ap₂, ◌∙◌}
use mathlib.Core.List.{List}
use Prim.Native.Nat.{ℕ}
use native.Mathlib.Omega.{arith}
use Rattle.std.specs.Prelude.{Result, Err}
use Rattle.refusals.specs.declared.Refused.{Refused}
use Rattle.refusals.specs.Numbers.{number_of}
use Rattle.refusals.proofs.Laws.{number_above}
use Rattle.order.specs.Order.{verdict, first_number}
use Rattle.order.proofs.Laws.{Passes, refused_by}
use Rattle.shape.specs.Tree.{Tree}
use Rattle.shape.specs.Sizes.{leaves}
use Rattle.shape.proofs.Counting.{Counts}
use Rattle.nodes.specs.Nodes.{node_in}
use Rattle.letter.specs.declared.Fields.{Fields}
use Rattle.letter.specs.Bytes.{index_in, record_in}
use Rattle.letter.specs.Items.{letter_tree, worked_root}
use Rattle.letter.specs.Checking.{taken_apart, fields_order, fields_outcome}
use Rattle.letter.proofs.Apart.{Apart, apart_refused, record_slice, items_slice, record_slice_lem, tree_slices}
use Rattle.difference.specs.Outcome.{FindOutcome, find_refused}
use Rattle.letter_finder.specs.Outcome.{own_order}
use Rattle.letter_finder.specs.Steps.{comparing, against_outcome}
use Rattle.letter_finder.proofs.Stages.{root_differs, last}

module _ {size n : ℕ} (letter : List ℕ) (count : Counts size n) where
  module _ {f : Fields} (a : Apart size n letter f) where
    -- the passes of its order
    pub fields_pass : Passes (fields_order size (leaves size) letter)
    fields_pass = rw count.value a.passes

    -- the slices compared are the letter compared
    pub formed : (digest : List ℕ → List ℕ) (bs rec first second : List ℕ) {x : FindOutcome}
        → x ≡ against_outcome digest bs n f.index rec (record_slice size n letter f) (items_slice size n letter f) first second
        → x ≡ verdict (find_refused first second) (root_differs digest (node_in bs) size rec letter first second)
        (verdict (find_refused first second) (own_order digest (node_in bs) (leaves size) rec (index_in letter))
        (last digest (node_in bs) size rec letter first second))
    unfolding against_outcome worked_root
    formed digest bs rec first second e =
        e
        ∙ ap₂ (λ (t : Tree) (x : List ℕ). comparing digest bs n f.index rec t x first second)
        (tree_slices size n letter f a digest) (record_slice_lem size n letter f a)
        ∙ ap₂ (λ (m i : ℕ). comparing digest bs m i rec (letter_tree digest m letter) (record_in letter) first second) (sym count.value) a.index

  -- a refusal of its order
  pub refused_fields : {r : Result Fields Refused} {why : Refused} (first second : List ℕ) (done : FindOutcome)
      → taken_apart r ≡ fields_outcome size n letter → r ≡ Err why
      → find_refused first second (number_of why) ≡ verdict (find_refused first second) (fields_order size (leaves size) letter) done
  refused_fields {why = why} first second done e w =
      let k : number_of why ≡ first_number (fields_order size (leaves size) letter) = rw count.value (apart_refused size n letter e w) in
      ap (find_refused first second) k
      ∙ sym (refused_by (find_refused first second) done (fields_order size (leaves size) letter) (λ z. omega (arith, number_above why)))
