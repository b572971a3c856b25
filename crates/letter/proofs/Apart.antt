-- A letter that was taken apart: where a refusal stands in the order, and what the fields are where there is none.
use mathlib.Core.Path.{◌≡◌, refl, sym, ap, ap₂, ◌∙◌}
use mathlib.Core.List.{List}
use Prim.Native.Nat.{ℕ, ◌+◌, ◌-◌, ◌*◌, ◌≤◌, ◌<◌}
use native.Mathlib.Nat.{add-zero}
use native.Mathlib.Omega.{arith}
use lib.ListN.{length, take, drop, length-drop}
use lib.Seq.{take_all}
use Rattle.std.specs.Prelude.{Result, Ok, Err}
use Rattle.refusals.specs.declared.Refused.{Refused}
use Rattle.refusals.specs.Numbers.{number_of}
use Rattle.order.specs.Order.{first_number}
use Rattle.order.proofs.Laws.{Passes, number_is, accepted}
use Rattle.wire.specs.Slices.{rows_from}
use Rattle.wire.proofs.Lent.{slice_part}
use Rattle.shape.specs.Tree.{root}
use Rattle.letter.specs.Bytes.{head, index_in, stated_in, record_in, items_in}
use Rattle.letter.specs.Items.{item_count, tree_of, letter_tree, worked_root}
use Rattle.letter.specs.Checking.{items_for, FieldsOutcome, taken_apart, fields_refused, behind_order, fields_order, fields_outcome}
use Rattle.letter.specs.declared.Fields.{Fields}
use Rattle.wire.proofs.Rows.{digests_drop}

module _ (size n : ℕ) (letter : List ℕ) where
  -- where a refusal is answered, its number is that of the order's first
  pub apart_refused : {r : Result Fields Refused} {why : Refused} → taken_apart r ≡ fields_outcome size n letter → r ≡ Err why
      → number_of why ≡ first_number (fields_order size n letter)
  unfolding fields_outcome
  apart_refused e w =
      number_is (λ (o : FieldsOutcome). o.number) fields_refused (fields_order size n letter) _ (λ k. refl) refl (sym (ap taken_apart w) ∙ e)

  -- where fields are answered
  pub record Apart (f : Fields) : Type 0 where
    pub passes : Passes (fields_order size n letter)
    pub index : f.index ≡ index_in letter
    pub start : f.start ≡ head
    pub long : f.length ≡ stated_in letter
    pub inside : f.index < n
    pub short : stated_in letter ≤ 16384
    pub exact : length letter ≡ f.start + f.length + 32 * items_for n letter

  pub apart : {r : Result Fields Refused} {f : Fields} → taken_apart r ≡ fields_outcome size n letter → r ≡ Ok f → Apart f
  unfolding fields_outcome fields_order behind_order
  apart {f = f} e w =
      let a = accepted (λ (o : FieldsOutcome). o.number) fields_refused (fields_order size n letter) _ (λ k. refl) refl
      (sym (ap taken_apart w) ∙ e) tt refl in
      let i : f.index ≡ index_in letter = ap (λ (o : FieldsOutcome). o.index) a.1 in
      let s : f.start ≡ head = ap (λ (o : FieldsOutcome). o.start) a.1 in
      let l : f.length ≡ stated_in letter = ap (λ (o : FieldsOutcome). o.length) a.1 in
      let p = a.0 in
      record {
        passes = p;
        index = i;
        start = s;
        long = l;
        inside = omega (arith, i, p.1.1.0);
        short = omega (arith, p.1.1.1.0);
        exact = omega (arith, s, l, p.1.1.1.1.0);
      }

module _ (size n : ℕ) (letter : List ℕ) (f : Fields) where
  -- the record and the items, as slices of the letter
  abbrev pub record_slice : List ℕ
  record_slice = take (f.start + f.length - f.start) (drop f.start letter)

  abbrev pub items_slice : List ℕ
  items_slice = take (length letter - (f.start + f.length)) (drop (f.start + f.length) letter)

  module _ (a : Apart size n letter f) where
    pub record_slice_lem : record_slice ≡ record_in letter
    unfolding record_in
    record_slice_lem =
        ap₂ (λ (s l : ℕ). take (s + l - s) (drop s letter)) a.start a.long
        ∙ slice_part head (stated_in letter) letter (omega (arith, a.start, a.long, a.exact))

    items_slice_lem : (k : ℕ) → rows_from 32 0 k items_slice ≡ items_in k letter
    unfolding items_in
    items_slice_lem k =
        ap (rows_from 32 0 k) (take_all (length letter - (f.start + f.length)) (drop (f.start + f.length) letter) (rw length-drop (omega arith)))
        ∙ digests_drop 0 k (f.start + f.length) letter
        ∙ ap (λ (at : ℕ). rows_from 32 at k letter) (add-zero (f.start + f.length) ∙ ap₂ (λ (s l : ℕ). s + l) a.start a.long)

    -- the tree that the slices make is that of the letter, and so is the root worked out from them
    module _ (digest : List ℕ → List ℕ) where
      pub tree_slices : tree_of digest n f.index record_slice (rows_from 32 0 (item_count n f.index) items_slice) ≡ letter_tree digest n letter
      tree_slices =
          ap₂ (λ (x : List ℕ) (xs : List (List ℕ)). tree_of digest n f.index x xs) record_slice_lem (items_slice_lem (item_count n f.index))
          ∙ ap (λ (i : ℕ). tree_of digest n i (record_in letter) (items_in (item_count n i) letter)) a.index

      pub worked_slices : {d : List ℕ} → d ≡ root digest (tree_of digest n f.index record_slice (rows_from 32 0 (item_count n f.index) items_slice))
          → d ≡ worked_root digest n letter
      unfolding worked_root
      worked_slices e = e ∙ ap (root digest) tree_slices
