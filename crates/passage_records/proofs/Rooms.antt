-- All records of a pass: a refusal, a list with too few places, or each list filled.
use mathlib.Core.Path.{◌≡◌, refl, ap, ◌∙◌}
use mathlib.Core.List.{List}
use Prim.Native.Nat.{ℕ, ◌+◌, ◌≤◌, ◌<◌}
use native.Mathlib.Omega.{arith}
use lib.ListN.{length, length-take, get_or, take}
use Rattle.order.proofs.Laws.{passes, refuses, early, late}
use Rattle.wire.specs.Slices.{splice}
use Rattle.shape.specs.Sizes.{leaves}
use Rattle.passage.specs.Bytes.{count_in, places, indexes_in, starts_in, lengths_in}
use Rattle.passage_fields.specs.declared.Fields.{Fields}
use Rattle.passage_fields.specs.Fields.{fields_refused, fields_taken}
use Rattle.passage_fields.proofs.Places.{places_count, indexes_count}
use Rattle.passage_fields.proofs.Fits.{fits_inside}
use Rattle.passage_fields.proofs.Apart.{Apart, apart}
use Rattle.passage_checker.specs.Outcome.{check_order, pass_outcome}
use Rattle.passage_records.specs.Outcome.{list_refused, list_done, room_order, entries_outcome}
use Rattle.passage_records.specs.Steps.{Listable, Listed}
use Rattle.passage_checker.proofs.Passing.{pass_number, pass_taken}
use Rattle.passage_records.proofs.Handing.{start_at}

module _ (digest : List ℕ → List ℕ) (size : ℕ) (root letter indexes starts lengths : List ℕ) where
  -- a refusal changes no list
  pub pass_refuses : {k : ℕ} → 0 < k → fields_refused k ≡ pass_outcome digest size root letter
      → list_refused indexes starts lengths k ≡ entries_outcome digest size root letter indexes starts lengths
  unfolding entries_outcome
  pass_refuses z e =
      let n = pass_number digest size root letter e in
      early (list_refused indexes starts lengths) (check_order digest size root letter) (room_order letter indexes starts lengths)
      (list_done letter indexes starts lengths) (ap (list_refused indexes starts lengths) n) (λ y. omega (arith, n))

  module _ {f : Fields} (e : fields_taken f ≡ pass_outcome digest size root letter) where
    taken_apart_lem : Apart size (leaves size) letter (pass_taken digest size root letter e).1
    taken_apart_lem = apart size (leaves size) letter (pass_taken digest size root letter e).1

    -- the arrays have room for the records, which stand at their front
    pub indexes_front : f.count ≡ length (take f.count f.indexes)
    indexes_front = omega (arith, ap length taken_apart_lem.indexes_are, indexes_count letter, taken_apart_lem.count)

    pub places_front : f.count ≡ length (take f.count f.places)
    places_front = omega (arith, ap length taken_apart_lem.places_are, places_count letter, taken_apart_lem.count)

    pub indexes_room : f.count ≤ length f.indexes
    indexes_room = omega (arith, indexes_front, length-take f.count f.indexes)

    pub places_room : f.count ≤ length f.places
    places_room = omega (arith, places_front, length-take f.count f.places)

    pub room_refuses : (f.count ≤ length indexes → f.count ≤ length starts → f.count ≤ length lengths → ⊥)
        → list_refused indexes starts lengths 6 ≡ entries_outcome digest size root letter indexes starts lengths
    unfolding entries_outcome room_order
    room_refuses h =
        let n = taken_apart_lem.count in
        late (list_refused indexes starts lengths) (check_order digest size root letter) (room_order letter indexes starts lengths)
        (list_done letter indexes starts lengths) (pass_taken digest size root letter e).0
        (refuses 6 (list_refused indexes starts lengths) (room_order letter indexes starts lengths) (list_done letter indexes starts lengths)
        refl (λ a b c. h (omega arith) (omega arith) (omega arith)))

    -- all three have room
    module _ (a : f.count ≤ length indexes) (b : f.count ≤ length starts) (c : f.count ≤ length lengths) where
      place_inside : (k : ℕ) → k < count_in letter → get_or (places letter) k 0 + 12 ≤ length letter
      place_inside k h = omega (arith, start_at letter k h, fits_inside size (leaves size) letter taken_apart_lem.fits k)

      pub listable : Listable letter (take f.count f.indexes) (take f.count f.places) (length indexes) (length starts) (length lengths)
      listable =
          let t = taken_apart_lem in
          record {
            one_each = omega (arith, indexes_front, places_front);
            inside = λ k h. rw t.places_are (place_inside k (omega (arith, places_front, t.count)));
            room = (omega (arith, places_front), omega (arith, places_front), omega (arith, places_front));
          }

      pub all_listed : {i s l : List ℕ} → Listed letter (take f.count f.indexes) (take f.count f.places) indexes starts lengths i s l
          → record { number = 0; count = f.count; indexes = i; starts = s; lengths = l }
          ≡ entries_outcome digest size root letter indexes starts lengths
      unfolding entries_outcome room_order starts_in lengths_in
      all_listed {i} {s} {l} d =
          let t = taken_apart_lem in
          let x : i ≡ splice 0 (indexes_in letter) indexes = d.indexes_are ∙ ap (λ (xs : List ℕ). splice 0 xs indexes) t.indexes_are in
          let y : s ≡ splice 0 (starts_in letter) starts = d.starts_are ∙ rw t.places_are in
          let w : l ≡ splice 0 (lengths_in letter) lengths = d.lengths_are ∙ rw t.places_are in
          late (list_refused indexes starts lengths) (check_order digest size root letter) (room_order letter indexes starts lengths)
          (list_done letter indexes starts lengths) (pass_taken digest size root letter e).0
          (passes (list_refused indexes starts lengths) (room_order letter indexes starts lengths) (list_done letter indexes starts lengths)
          (λ j. record { number = 0; count = t.count j; indexes = x j; starts = y j; lengths = w j })
          (omega (arith, t.count), (omega (arith, t.count), (omega (arith, t.count), tt))))
