-- A letter that was taken apart, for those who call: where a refusal stands in the order, and what the fields are where there is none.
use mathlib.Core.Path.{◌≡◌, refl, ap, ◌∙◌}
use mathlib.Core.List.{List}
use Prim.Native.Nat.{ℕ, ◌-◌}
use native.Mathlib.Nat.{add-zero}
use lib.ListN.{length, take, drop}
use Rattle.order.specs.Order.{first_number}
use Rattle.order.proofs.Laws.{Passes, number_is, accepted}
use Rattle.wire.specs.Slices.{rows_from}
use Rattle.wire.proofs.Rows.{digests_drop}
use Rattle.wire.proofs.Lists.{rest_all}
use Rattle.passage.specs.Bytes.{count_in, places, indexes_in, end_in, digests_in}
use Rattle.passage.specs.Checking.{fields_order}
use Rattle.passage_fields.specs.Fields.{FieldsOutcome, fields_refused, fields_taken, fields_done, fields_outcome}
use Rattle.passage_fields.specs.declared.Fields.{Fields}
use Rattle.passage_fields.proofs.Filled.{filled_length, filled_front}
use Rattle.passage_fields.proofs.Places.{places_count, indexes_count}
use Rattle.passage_fields.proofs.Numbered.{fields_numbered}
use Rattle.passage_fields.proofs.Fits.{Fits, pass_fits}

module _ (size n : ℕ) (letter : List ℕ) where
  -- the number is that of the order's first refusal
  pub apart_number : {o : FieldsOutcome} → o ≡ fields_outcome size n letter → o.number ≡ first_number (fields_order size n letter)
  unfolding fields_outcome
  apart_number e = number_is (λ (o : FieldsOutcome). o.number) fields_refused (fields_order size n letter) (fields_done letter) (λ k. refl) refl e

  -- where there is none: the lists stand in the first places of the two arrays
  module _ {f : Fields} (e : fields_taken f ≡ fields_outcome size n letter) where
    pub record Apart : Type 0 where
      pub passes : Passes (fields_order size n letter)
      pub fits : Fits size n letter
      pub count : f.count ≡ count_in letter
      pub end : f.end ≡ end_in letter
      pub indexes_long : length f.indexes ≡ 256
      pub indexes_are : take f.count f.indexes ≡ indexes_in letter
      pub places_long : length f.places ≡ 256
      pub places_are : take f.count f.places ≡ places letter

    pub apart : Apart
    unfolding fields_outcome
    apart =
        let a = accepted (λ (o : FieldsOutcome). o.number) fields_refused (fields_order size n letter) (fields_done letter) (λ k. refl) refl e
        (fields_numbered size n letter) refl in
        let t = pass_fits size n letter a.0 in
        let i = indexes_count letter in
        let p = places_count letter in
        record {
          passes = a.0;
          fits = t;
          count = ap (λ (o : FieldsOutcome). o.count) a.1;
          end = ap (λ (o : FieldsOutcome). o.end) a.1;
          indexes_long = ap (λ (o : FieldsOutcome). length o.indexes) a.1 ∙ filled_length (indexes_in letter) (count_in letter) i t.few;
          indexes_are = ap (λ (o : FieldsOutcome). take o.count o.indexes) a.1 ∙ filled_front (indexes_in letter) (count_in letter) i;
          places_long = ap (λ (o : FieldsOutcome). length o.places) a.1 ∙ filled_length (places letter) (count_in letter) p t.few;
          places_are = ap (λ (o : FieldsOutcome). take o.count o.places) a.1 ∙ filled_front (places letter) (count_in letter) p;
        }

    -- the digests, as a slice of the letter to its end
    pub digests_slice : (k : ℕ) → rows_from 32 0 k (take (length letter - f.end) (drop f.end letter)) ≡ digests_in k letter
    unfolding digests_in
    digests_slice k =
        ap (rows_from 32 0 k) (rest_all f.end letter)
        ∙ digests_drop 0 k f.end letter
        ∙ ap (λ (at : ℕ). rows_from 32 at k letter) (add-zero f.end ∙ apart.end)
