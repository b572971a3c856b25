-- What a pass hands back: record k, or none past the last.
use mathlib.Core.Logic.{by_cases}
use mathlib.Core.Path.{◌≡◌, refl, sym, ap, ◌∙◌}
use mathlib.Core.List.{List, [], ◌∷◌, map}
use Prim.Native.Nat.{ℕ, zero, suc, ◌+◌, ◌≤◌, ◌<◌}
use native.Mathlib.Decide.{ℕ_discrete}
use native.Mathlib.Omega.{arith}
use lib.ListN.{length, length-map, get_or, get_or-eq_default}
use lib.Seq.{get_or-take}
use Rattle.order.proofs.Laws.{accepted, refusal, passes, pass_parts}
use Rattle.shape.specs.Sizes.{leaves}
use Rattle.passage.specs.Bytes.{count_in, stated_at, places, indexes_in, starts_in, lengths_in}
use Rattle.passage.specs.Checking.{fields_order, from7}
use Rattle.passage_fields.specs.declared.Fields.{Fields}
use Rattle.passage_fields.specs.Fields.{fields_taken}
use Rattle.passage_fields.proofs.Places.{places_count, indexes_count, lengths_count}
use Rattle.passage_fields.proofs.Fits.{pass_fits, fits_inside}
use Rattle.passage_fields.proofs.Apart.{Apart, apart}
use Rattle.passage_checker.specs.Outcome.{check_order, pass_outcome}
use Rattle.passage_records.specs.Outcome.{EntryOutcome, entry_refused, entry_done, entry_outcome}
use Rattle.passage_checker.proofs.Passing.{check_numbered, pass_taken}
use Rattle.passage_checker.proofs.Worked.{counted_few}

-- one of a list's images
pub number_at : (f : ℕ → ℕ) (xs : List ℕ) (k : ℕ) → k < length xs → get_or (map f xs) k 0 ≡ f (get_or xs k 0)
number_at f [] k p = absurd (omega arith)
number_at f (x ∷ xs) zero p = refl
number_at f (x ∷ xs) (suc k) p = number_at f xs k (omega arith)

pub starts_count : (letter : List ℕ) → length (starts_in letter) ≡ count_in letter
unfolding starts_in
starts_count letter = length-map (places letter) (λ (at : ℕ). at + 12) ∙ places_count letter

pub start_at : (letter : List ℕ) (k : ℕ) → k < count_in letter → get_or (starts_in letter) k 0 ≡ get_or (places letter) k 0 + 12
unfolding starts_in
start_at letter k p = number_at (λ (at : ℕ). at + 12) (places letter) k (omega (arith, places_count letter))

pub length_at : (letter : List ℕ) (k : ℕ) → k < count_in letter → get_or (lengths_in letter) k 0 ≡ stated_at letter (get_or (places letter) k 0)
unfolding lengths_in
length_at letter k p = number_at (stated_at letter) (places letter) k (omega (arith, places_count letter))

module _ (digest : List ℕ → List ℕ) (size : ℕ) (root letter : List ℕ) where
  module _ {f : Fields} (e : fields_taken f ≡ pass_outcome digest size root letter) where
    taken_apart_lem : Apart size (leaves size) letter (pass_taken digest size root letter e).1
    taken_apart_lem = apart size (leaves size) letter (pass_taken digest size root letter e).1

    pub entry_count : f.count ≡ count_in letter
    entry_count = taken_apart_lem.count

    -- past the last
    pub entry_none : (k : ℕ) → f.count ≤ k → record { number = 0; index = 0; start = 0; length = 0 } ≡ entry_outcome digest size root letter k
    unfolding entry_outcome
    entry_none k h =
        let c = entry_count in
        let i : get_or (indexes_in letter) k 0 ≡ 0 = get_or-eq_default (indexes_in letter) 0 {n = k} (omega (arith, indexes_count letter)) in
        let s : get_or (starts_in letter) k 0 ≡ 0 = get_or-eq_default (starts_in letter) 0 {n = k} (omega (arith, starts_count letter)) in
        let l : get_or (lengths_in letter) k 0 ≡ 0 = get_or-eq_default (lengths_in letter) 0 {n = k} (omega (arith, lengths_count letter)) in
        passes entry_refused (check_order digest size root letter) (entry_done letter k) (rw (i, s, l)) (pass_taken digest size root letter e).0

    module _ (k : ℕ) (h : k < f.count) where
      place_is : get_or f.places k 0 ≡ get_or (places letter) k 0
      place_is = sym (get_or-take f.count f.places k 0 h) ∙ ap (λ (xs : List ℕ). get_or xs k 0) taken_apart_lem.places_are

      -- it stands in the arrays, and within the letter
      pub entry_inside : (k < 256) × (get_or f.places k 0 + 12 ≤ length letter)
      entry_inside =
          let t = taken_apart_lem in (
            omega (arith, counted_few size (leaves size) letter (pass_taken digest size root letter e).1),
            omega (arith, place_is, start_at letter k (omega (arith, t.count)), fits_inside size (leaves size) letter t.fits k),
          )

      pub entry_some : {index start length : ℕ} → index ≡ get_or f.indexes k 0 → start ≡ get_or f.places k 0 + 12
          → length ≡ stated_at letter (get_or f.places k 0)
          → record { number = 0; index = index; start = start; length = length } ≡ entry_outcome digest size root letter k
      unfolding entry_outcome
      entry_some {index} {start} {length} i s l =
          let t = taken_apart_lem in
          let m : k < count_in letter = omega (arith, t.count) in
          let a : index ≡ get_or (indexes_in letter) k 0 =
          i ∙ sym (get_or-take f.count f.indexes k 0 h) ∙ ap (λ (xs : List ℕ). get_or xs k 0) t.indexes_are in
          let b : start ≡ get_or (starts_in letter) k 0 = s ∙ ap (λ (at : ℕ). at + 12) place_is ∙ sym (start_at letter k m) in
          let d : length ≡ get_or (lengths_in letter) k 0 = l ∙ ap (stated_at letter) place_is ∙ sym (length_at letter k m) in
          passes entry_refused (check_order digest size root letter) (entry_done letter k) (rw (a, b, d))
          (pass_taken digest size root letter e).0

  -- it lies within the letter, also the empty one of a refusal
  pub entry_within : (k : ℕ) → (entry_outcome digest size root letter k).start + (entry_outcome digest size root letter k).length ≤ length letter
  unfolding entry_outcome check_order from7
  entry_within k =
      by_cases (ℕ_discrete (entry_outcome digest size root letter k).number 0)
      (λ z.
      let a = accepted (λ (o : EntryOutcome). o.number) entry_refused (check_order digest size root letter) (entry_done letter k) (λ n. refl) refl refl
      (check_numbered digest size root letter) z in
      let p = pass_parts (fields_order size (leaves size) letter) _ a.0.1.1 in
      rw a.1 (fits_inside size (leaves size) letter (pass_fits size (leaves size) letter p.0) k))
      (λ z.
      let f : entry_outcome digest size root letter k ≡ entry_refused (entry_outcome digest size root letter k).number =
      refusal (λ (o : EntryOutcome). o.number) entry_refused (check_order digest size root letter) (entry_done letter k) (λ n. refl) refl refl z in
      rw f (omega arith))
