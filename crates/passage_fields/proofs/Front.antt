-- A letter taken apart in three steps: what stands before the records, the records, and the exact length.
use mathlib.Core.Logic.{◌≢◌}
use mathlib.Core.Path.{◌≡◌, refl, ap, ◌∙◌}
use mathlib.Core.List.{List, [], ◌∷◌, ◌++◌}
use Prim.Native.Nat.{ℕ, ◌+◌, ◌*◌, ◌≤◌, ◌<◌}
use native.Mathlib.Omega.{arith}
use lib.ListN.{length, take}
use Rattle.order.specs.Order.{Refusal, ◌if◌, ◌under◌, ◌above◌, ◌is_not◌, first_number}
use Rattle.order.proofs.Laws.{Passes, accepted, number_is, early, late, passes, refuses}
use Rattle.letter.specs.Bytes.{size_in}
use Rattle.passage.specs.Bytes.{count_in, places, indexes_in, end_in}
use Rattle.passage.specs.Digests.{digest_count}
use Rattle.passage.specs.Checking.{entries_order, exact_for, fields_order}
use Rattle.passage_fields.specs.declared.Fields.{Fields}
use Rattle.passage_fields.specs.Fields.{FieldsOutcome, fields_refused, fields_taken, fields_done, front_order, front_outcome, fields_outcome}
use Rattle.passage_fields.specs.Steps.{records_outcome}
use Rattle.passage_fields.proofs.Filled.{filled_length, filled_front}
use Rattle.passage_fields.proofs.Places.{places_count, indexes_count, exact_end}
use Rattle.passage_fields.proofs.Numbered.{front_numbered}
use Rattle.passage_fields.proofs.Entries.{entries_within, entries_near}

module _ (size n : ℕ) (letter : List ℕ) where
  -- before the records, and behind them
  abbrev pub head_order : List Refusal
  head_order =
      7 if length letter under 10 ∷ 8 if size_in letter is_not size ∷ 19 if count_in letter under 1 ∷ 19 if count_in letter above 256 ∷ []

  abbrev records : List Refusal
  records = entries_order n letter 10 0 (count_in letter)

  abbrev exact : List Refusal
  exact = 7 if length letter is_not exact_for n letter ∷ []

  fields_parts : fields_order size n letter ≡ front_order size n letter ++ exact
  unfolding fields_order front_order
  fields_parts = refl

  -- the records, behind a head that passes
  pub front_records : Passes head_order → {o : FieldsOutcome} → o ≡ records_outcome n letter (count_in letter) → o ≡ front_outcome size n letter
  unfolding front_outcome front_order records_outcome indexes_in places end_in
  front_records p e = late fields_refused head_order records (fields_done letter) p e

  -- ---- what comes before the exact length

  -- a refusal is that of all fields
  pub front_refuses : {k : ℕ} → 0 < k → fields_refused k ≡ front_outcome size n letter → fields_refused k ≡ fields_outcome size n letter
  unfolding front_outcome fields_outcome
  front_refuses {k} z e =
      let m : k ≡ first_number (front_order size n letter) =
      number_is (λ (o : FieldsOutcome). o.number) fields_refused (front_order size n letter) (fields_done letter) (λ j. refl) refl e in
      rw fields_parts (early fields_refused (front_order size n letter) exact (fields_done letter) (ap fields_refused m) (λ y. omega arith))

  module _ {f : Fields} (e : fields_taken f ≡ front_outcome size n letter) where
    -- where there is none: the lists stand in the first places of the two arrays, and the records within the letter
    pub record Fronted : Type 0 where
      pub passes : Passes (front_order size n letter)
      pub done : fields_taken f ≡ fields_done letter
      pub few : f.count ≤ 256
      pub indexes_long : length f.indexes ≡ 256
      pub indexes_are : take f.count f.indexes ≡ indexes_in letter
      pub places_long : length f.places ≡ 256
      pub within : f.end ≤ length letter
      pub near : f.end ≤ 4197386

    pub fronted : Fronted
    unfolding front_outcome front_order end_in
    fronted =
        let a = accepted (λ (o : FieldsOutcome). o.number) fields_refused (front_order size n letter) (fields_done letter) (λ k. refl) refl e
        (front_numbered size n letter) refl in
        let p = a.0 in
        let m : count_in letter ≤ 256 = p.1.1.1.0 in
        let i = indexes_count letter in
        let l = ap (λ (o : FieldsOutcome). o.end) a.1 in
        record {
          passes = p;
          done = a.1;
          few = omega (arith, ap (λ (o : FieldsOutcome). o.count) a.1);
          indexes_long = ap (λ (o : FieldsOutcome). length o.indexes) a.1 ∙ filled_length (indexes_in letter) (count_in letter) i m;
          indexes_are = ap (λ (o : FieldsOutcome). take o.count o.indexes) a.1 ∙ filled_front (indexes_in letter) (count_in letter) i;
          places_long =
              ap (λ (o : FieldsOutcome). length o.places) a.1 ∙ filled_length (places letter) (count_in letter) (places_count letter) m;
          within = omega (arith, entries_within n letter 10 0 (count_in letter) p.0 p.1.1.1.1);
          near = omega (arith, entries_near n letter 10 0 (count_in letter) p.1.1.1.1);
        }

    -- ---- the exact length

    pub exact_is : {k : ℕ} → k ≡ digest_count n (take f.count f.indexes) → f.end + 32 * k ≡ exact_for n letter
    exact_is {k} d =
        let c : k ≡ digest_count n (indexes_in letter) = d ∙ ap (digest_count n) fronted.indexes_are in
        omega (arith, exact_end letter n, ap (λ (o : FieldsOutcome). o.end) fronted.done)

    pub exact_refuses : length letter ≢ exact_for n letter → fields_refused 7 ≡ fields_outcome size n letter
    unfolding fields_outcome
    exact_refuses h =
        rw fields_parts
        (late fields_refused (front_order size n letter) exact (fields_done letter) fronted.passes
        (refuses 7 fields_refused exact (fields_done letter) refl (λ y. absurd (h y))))

    pub exact_passes : length letter ≡ exact_for n letter → fields_taken f ≡ fields_outcome size n letter
    unfolding fields_outcome
    exact_passes h =
        rw fields_parts
        (late fields_refused (front_order size n letter) exact (fields_done letter) fronted.passes
        (passes fields_refused exact (fields_done letter) fronted.done (h, tt)))
