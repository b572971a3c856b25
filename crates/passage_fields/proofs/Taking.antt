-- The loop over the records: its beginning, a record that is refused, one that is taken, and its end.
use mathlib.Core.Logic.{◌≢◌}
use mathlib.Core.Path.{◌≡◌, refl, sym, ap, ap₂, ◌∙◌}
use mathlib.Core.List.{List, ◌++◌, map}
use Prim.Native.Nat.{ℕ, suc, ◌+◌, ◌-◌, ◌≤◌, ◌<◌}
use native.Mathlib.Nat.{sub-zero}
use native.Mathlib.Omega.{arith}
use lib.ListN.{length, set, length-map}
use Rattle.order.specs.Order.{verdict, first_number}
use Rattle.order.proofs.Laws.{Passes, clear, early, late}
use Rattle.wire.specs.Slices.{zeros}
use Rattle.passage.specs.Bytes.{index_at, stated_at, behind_at, places_from, end_from}
use Rattle.passage.specs.Checking.{entries_order, record_order}
use Rattle.passage_fields.specs.Fields.{FieldsOutcome, filled, fields_refused}
use Rattle.passage_fields.specs.Steps.{records_done, records_outcome}
use Rattle.passage_fields.proofs.Filled.{filled_next}
use Rattle.passage_fields.proofs.Places.{places_length, places_snoc, end_snoc, map_snoc}

-- ---- one record of the order

entries_next : (n : ℕ) (letter : List ℕ) (at floor k : ℕ)
    → entries_order n letter at floor (suc k) ≡ record_order n letter at floor ++ entries_order n letter (behind_at letter at) (suc (index_at letter at)) k
unfolding entries_order record_order
entries_next n letter at floor k = refl

-- a record that is not refused
pub record Taken (n : ℕ) (letter : List ℕ) (at : ℕ) : Type 0 where
  pub framed : at + 12 ≤ length letter
  pub below : index_at letter at < n
  pub short : stated_at letter at ≤ 16384
  pub whole : behind_at letter at ≤ length letter

passes_taken : (n : ℕ) (letter : List ℕ) (at floor : ℕ) → Passes (record_order n letter at floor) → Taken n letter at
unfolding record_order
passes_taken n letter at floor p = record { framed = p.0; below = p.1.1.0; short = p.1.1.1.0; whole = p.1.1.1.1.0 }

passes_met : (n : ℕ) (letter : List ℕ) (at floor : ℕ) {number : ℕ} → number ≡ first_number (record_order n letter at floor) → number ≡ 0
    → Passes (record_order n letter at floor)
unfolding record_order
passes_met n letter at floor e z = clear (record_order n letter at floor) tt (sym e ∙ z)

-- ---- the loop, before record k

module _ (n : ℕ) (letter : List ℕ) (count : ℕ) where
  abbrev outcome_from : ℕ → ℕ → ℕ → FieldsOutcome
  outcome_from at floor k = verdict fields_refused (entries_order n letter at floor k) (records_done letter count)

  pub record Taking (indexes places : List ℕ) (at floor k : ℕ) : Type 0 where
    pub some : k ≤ count
    pub inside : at ≤ length letter
    pub end : at ≡ end_from letter 10 k
    pub indexed : indexes ≡ filled (map (index_at letter) (places_from letter 10 k))
    pub placed : places ≡ filled (places_from letter 10 k)
    pub same : outcome_from at floor (count - k) ≡ records_outcome n letter count

  pub taking_none : 10 ≤ length letter → Taking (zeros 256) (zeros 256) 10 0 0
  unfolding places_from end_from records_outcome
  taking_none h =
      record { some = omega arith; inside = h; end = refl; indexed = refl; placed = refl; same = ap (outcome_from 10 0) (sub-zero count) }

  module _ {indexes places : List ℕ} {at floor k number : ℕ} (t : Taking indexes places at floor k) (m : k < count)
      (e : number ≡ first_number (record_order n letter at floor)) where
    next : outcome_from at floor (suc (count - (k + 1))) ≡ records_outcome n letter count
    next = ap (outcome_from at floor) (omega arith) ∙ t.same

    -- refused
    pub taking_stop : {r : FieldsOutcome} → number ≢ 0 → r ≡ fields_refused number → r ≡ records_outcome n letter count
    taking_stop z f =
        early fields_refused (record_order n letter at floor) _ (records_done letter count) (f ∙ ap fields_refused e) (λ y. z (e ∙ y))
        ∙ sym (ap (λ o. verdict fields_refused o (records_done letter count)) (entries_next n letter at floor (count - (k + 1))))
        ∙ next

    -- taken
    module _ (z : number ≡ 0) where
      pub taken : Taken n letter at
      taken = passes_taken n letter at floor (passes_met n letter at floor e z)

      pub taking_more : count ≤ 256 → {index behind above : ℕ} → index ≡ index_at letter at → behind ≡ behind_at letter at
          → above ≡ suc (index_at letter at) → Taking (set indexes k index) (set places k at) behind above (k + 1)
      taking_more few {index} {behind} {above} f b c =
          let ps = places_from letter 10 k in
          record {
            some = omega arith;
            inside = omega (arith, b, taken.whole);
            end = b ∙ ap (behind_at letter) t.end ∙ sym (end_snoc letter 10 k);
            indexed =
                ap₂ (λ (xs : List ℕ) (v : ℕ). set xs k v) t.indexed (f ∙ ap (index_at letter) t.end)
                ∙ filled_next (map (index_at letter) ps) k (length-map ps (index_at letter) ∙ places_length letter 10 k) _ (omega arith)
                ∙ ap filled (sym (map_snoc (index_at letter) ps (end_from letter 10 k))
                ∙ ap (map (index_at letter)) (sym (places_snoc letter 10 k)));
            placed =
                ap₂ (λ (xs : List ℕ) (v : ℕ). set xs k v) t.placed t.end
                ∙ filled_next ps k (places_length letter 10 k) _ (omega arith)
                ∙ ap filled (sym (places_snoc letter 10 k));
            same =
                ap₂ (λ (a f : ℕ). outcome_from a f (count - (k + 1))) b c
                ∙ late fields_refused (record_order n letter at floor) _ (records_done letter count) (passes_met n letter at floor e z) refl
                ∙ sym (ap (λ o. verdict fields_refused o (records_done letter count)) (entries_next n letter at floor (count - (k + 1))))
                ∙ next;
          }

  -- the end
  pub taking_end : {indexes places : List ℕ} {at floor k : ℕ} → Taking indexes places at floor k → count ≤ k
      → record { number = 0; count = count; end = at; indexes = indexes; places = places } ≡ records_outcome n letter count
  unfolding entries_order record_order verdict
  taking_end {indexes} {places} {at} {floor} {k} t h =
      let e : k ≡ count = omega (arith, t.some) in
      let z : count - k ≡ 0 = omega arith in
      let d : record { number = 0; count = count; end = at; indexes = indexes; places = places } ≡ records_done letter count =
      rw (t.end, t.indexed, t.placed, e) in
      d ∙ sym (ap (outcome_from at floor) z) ∙ t.same
