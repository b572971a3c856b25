-- Of any size and root, over any digest function: what bytes are that the checker accepts, and what the calls beside it hand back.
use mathlib.Core.Path.{◌≡◌, refl, sym, ap, ◌∙◌}
use mathlib.Core.List.{List, [], ◌++◌, map}
use Prim.Native.Nat.{ℕ}
use native.Mathlib.Omega.{arith}
use lib.Dec.{T}
use lib.ListN.{length, get_or, get_or-map}
use Rattle.order.proofs.Laws.{Passes, numbered, accepted, passes, pass_parts, pass_whole, numbered_append}
use Rattle.wire.proofs.Differences.{differ_same, same_of_differ}
use Rattle.shape.specs.Sizes.{count_answer, leaves}
use Rattle.passage.specs.Bytes.{indexes_in, starts_in, lengths_in, records_in}
use Rattle.passage.specs.Request.{Request}
use Rattle.passage.specs.Digests.{worked_root}
use Rattle.passage.specs.Checking.{fields_order, from7}
use Rattle.passage_fields.proofs.Numbered.{fields_numbered}
use Rattle.passage_fields.proofs.Places.{indexes_count}
use Rattle.passage_fields.proofs.Fits.{Fits, pass_fits, fits_request, fits_stated, fits_part}
use Rattle.passage_checker.specs.Outcome.{CheckOutcome, check_refused, check_done, check_order, check_outcome}
use Rattle.passage_records.specs.Outcome.{entry_refused, entry_done, entry_outcome, list_refused, list_done, room_order, entries_outcome}
use Rattle.passage_promise.specs.Terms.{Accepted}
use Rattle.passage_promise.proofs.Read.{record_each, start_each}

-- every number of the checking order from 7 is above 0
from7_numbered : (digest : List ℕ → List ℕ) (size n : ℕ) (root letter : List ℕ) → T (numbered (from7 digest size n root letter))
unfolding from7
from7_numbered digest size n root letter = numbered_append (fields_order size n letter) _ (fields_numbered size n letter) tt

module _ (digest : List ℕ → List ℕ) (size n : ℕ) (root letter : List ℕ) where
  -- what passes from 7 on
  pub record Passed : Type 0 where
    pub fields : Passes (fields_order size n letter)
    pub rooted : root ≡ worked_root digest n letter

  pub pass_passed : Passes (from7 digest size n root letter) → Passed
  unfolding from7
  pass_passed p =
      let b = pass_parts (fields_order size n letter) _ p in
      record { fields = b.0; rooted = same_of_differ root (worked_root digest n letter) b.1.0 }

  pub passed_pass : Passed → Passes (from7 digest size n root letter)
  unfolding from7
  passed_pass f = pass_whole (fields_order size n letter) _ f.fields (differ_same root (worked_root digest n letter) f.rooted, tt)

  -- the request that it names
  pub passed_request : Passed → Request n (indexes_in letter)
  passed_request f = fits_request size n letter (pass_fits size n letter f.fields)

module _ (digest : List ℕ → List ℕ) (size : ℕ) (root letter : List ℕ) where
  -- none of the checker's tests applies
  pub record Checks : Type 0 where
    pub counted : (count_answer size).number ≡ 1 → ⊥
    pub wide : length root ≡ 32
    pub passed : Passed digest size (leaves size) root letter

  pub accepted_checks : (check_outcome digest size root letter).number ≡ 0 → Checks
  unfolding check_outcome check_order
  accepted_checks z =
      let p = (accepted (λ (o : CheckOutcome). o.number) check_refused (check_order digest size root letter) (check_done letter) (λ n. refl) refl refl
      (from7_numbered digest size (leaves size) root letter) z).0 in
      record { counted = p.0; wide = p.1.0; passed = pass_passed digest size (leaves size) root letter p.1.1 }

  module _ (c : Checks) where
    checks_pass : Passes (check_order digest size root letter)
    unfolding check_order
    checks_pass = (c.counted, (c.wide, passed_pass digest size (leaves size) root letter c.passed))

    formed : Fits size (leaves size) letter
    formed = pass_fits size (leaves size) letter c.passed.fields

    stated : lengths_in letter ≡ map length (records_in letter)
    stated = sym (fits_stated size (leaves size) letter formed)

    length_is : (k : ℕ) → get_or (lengths_in letter) k 0 ≡ length (get_or (records_in letter) k [])
    length_is k = ap (λ (l : List ℕ). get_or l k 0) stated ∙ get_or-map length (records_in letter) k []

    -- the calls hand back the indexes that the bytes name and the records that they hold
    pub checks_accepted : Accepted digest size root letter (indexes_in letter) (records_in letter)
    unfolding check_outcome entry_outcome entries_outcome room_order
    checks_accepted =
        let e = indexes_count letter in
        record {
          starts = starts_in letter;
          parts = λ k. rw (← length_is k) (fits_part size (leaves size) letter formed k);
          start_each = start_each letter;
          record_each = record_each letter;
          checked = sym (passes check_refused (check_order digest size root letter) (check_done letter) (rw e) checks_pass);
          entry = λ k. sym (passes entry_refused (check_order digest size root letter) (entry_done letter k) (rw (length_is k)) checks_pass);
          entries = λ xs ys zs p q r.
              sym (passes (list_refused xs ys zs) (check_order digest size root letter ++ room_order letter xs ys zs) (list_done letter xs ys zs)
              (rw (e, stated))
              (pass_whole (check_order digest size root letter) (room_order letter xs ys zs) checks_pass
              (omega arith, (omega arith, (omega arith, tt)))));
        }
