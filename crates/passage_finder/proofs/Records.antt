-- The log's own records beside the letter's: the first that differs, one record more, and the loop over them.
use mathlib.Core.Path.{◌≡◌, refl, sym, ap, ap₂, ◌∙◌}
use mathlib.Core.List.{List, [], ◌∷◌, ◌++◌, map}
use Prim.Native.Nat.{ℕ, zero, suc, ◌+◌, ◌≤◌, ◌<◌}
use native.Mathlib.Omega.{arith}
use Rattle.std.specs.Prelude.{Option, None}
use lib.ListN.{length, get_or, take, drop, drop_of_length-le}
use lib.Seq.{drop-drop}
use Rattle.wire.specs.Slices.{differ}
use Rattle.order.specs.Order.{Refusal, verdict, first_number}
use Rattle.order.proofs.Laws.{passes, clear, early, late}
use Rattle.records.specs.Records.{total, cut, sums_order}
use Rattle.records.proofs.Sums.{next_length, total_cons, sums_met}
use Rattle.records.proofs.Cuts.{cut_next}
use Rattle.findings.specs.Outcome.{Apart, nowhere, from, first_apart, apart_of, apart_at}
use Rattle.passage.specs.Bytes.{record_at}
use Rattle.passage_finder.specs.Outcome.{records_order}
use Rattle.passage_finder.specs.Steps.{OwnOutcome, own_refused, own_done, soonest, one_order, own_outcome}

-- ---- the first that differs

soonest_none : (a : Apart) → soonest a nowhere ≡ a
soonest_none nowhere = refl
soonest_none (from i) = refl

soonest_three : (a b c : Apart) → soonest (soonest a b) c ≡ soonest a (soonest b c)
soonest_three nowhere b c = refl
soonest_three (from i) b c = refl

-- of records that follow one another
apart_step : (i : ℕ) (is r : List ℕ) (rs : List (List ℕ)) (t : List ℕ) (ts : List (List ℕ))
    → first_apart (i ∷ is) (r ∷ rs) (t ∷ ts) ≡ soonest (apart_of (differ r t) i) (first_apart is rs ts)
unfolding first_apart
apart_step i is r rs t ts = by (differ r t)
  where
    by : (k : ℕ) → elim k [ zero ↦ first_apart is rs ts | suc m ↦ from i ] ≡ soonest (apart_of k i) (first_apart is rs ts)
    by zero = refl
    by (suc k) = refl

-- ---- the loop: the records before place k are done, and those from it on begin at byte `at` of the joined ones

module _ (digest : List ℕ → List ℕ) (node : ℕ → List ℕ) (is places records lengths letter : List ℕ) where
  abbrev from_on : ℕ → ℕ → List (List ℕ)
  from_on at k = cut (drop k lengths) (drop at records)

  abbrev theirs : ℕ → List (List ℕ)
  theirs k = map (record_at letter) (drop k places)

  abbrev going : Apart → ℕ → ℕ → OwnOutcome
  going apart at k =
      verdict own_refused (records_order digest node (drop k is) (from_on at k))
      (own_done (soonest apart (first_apart (drop k is) (from_on at k) (theirs k))))

  pub record Going (first : Option ℕ) (at k : ℕ) : Type 0 where
    pub sum : at + total (drop k lengths) ≡ length records
    pub same : going (apart_at first) at k ≡ own_outcome digest node is places records lengths letter

  -- 16 for the lengths
  pub going_none : {number : ℕ} → 0 < number → number ≡ first_number (sums_order (length is) (length records) lengths)
      → own_refused number ≡ own_outcome digest node is places records lengths letter
  unfolding own_outcome
  going_none h e =
      early own_refused (sums_order (length is) (length records) lengths) (records_order digest node is (cut lengths records)) _ (ap own_refused e)
      (λ z. omega arith)

  pub going_all : 0 ≡ first_number (sums_order (length is) (length records) lengths) → Going None 0 0
  unfolding own_outcome
  going_all e =
      let order = sums_order (length is) (length records) lengths in
      let s = sums_met (length is) (length records) lengths e refl in
      record {
        sum = omega (arith, s.1);
        same = late own_refused order (records_order digest node is (cut lengths records)) _ (s.0, (s.1, tt)) refl;
      }

  module _ {first : Option ℕ} {at k : ℕ} (g : Going first at k) (p : k < length is) (many : length places ≡ length is)
      (each : length lengths ≡ length is) where
    abbrev long : ℕ
    long = get_or lengths k 0

    -- the record there, and the letter's
    abbrev rec : List ℕ
    rec = take long (drop at records)

    abbrev other : List ℕ
    other = record_at letter (get_or places k 0)

    -- it lies within the joined ones
    pub going_fits : at + long ≤ length records
    going_fits = omega (arith, g.sum, ap total (next_length lengths k (omega arith)), total_cons long (drop (k + 1) lengths))

    cut_here : from_on at k ≡ rec ∷ from_on (at + long) (k + 1)
    cut_here =
        ap (λ (ks : List ℕ). cut ks (drop at records)) (next_length lengths k (omega arith))
        ∙ cut_next long (drop (k + 1) lengths) (drop at records)
        ∙ ap (λ (bs : List ℕ). rec ∷ cut (drop (k + 1) lengths) bs) (drop-drop long at records)

    theirs_here : theirs k ≡ other ∷ theirs (k + 1)
    theirs_here = ap (map (record_at letter)) (next_length places k (omega arith))

    abbrev later : List Refusal
    later = records_order digest node (drop (k + 1) is) (from_on (at + long) (k + 1))

    abbrev after : Apart
    after = first_apart (drop (k + 1) is) (from_on (at + long) (k + 1)) (theirs (k + 1))

    abbrev sofar : Apart
    sofar = apart_at first

    abbrev done : OwnOutcome
    done = own_done (soonest (soonest sofar (apart_of (differ rec other) (get_or is k 0))) after)

    abbrev by : List ℕ → List (List ℕ) → List (List ℕ) → OwnOutcome
    by xs rs ts = verdict own_refused (records_order digest node xs rs) (own_done (soonest sofar (first_apart xs rs ts)))

    step : verdict own_refused (one_order digest node (get_or is k 0) rec ++ later) done ≡ own_outcome digest node is places records lengths letter
    unfolding records_order one_order
    step =
        ap (λ (a : Apart). verdict own_refused (one_order digest node (get_or is k 0) rec ++ later) (own_done a))
        (soonest_three sofar (apart_of (differ rec other) (get_or is k 0)) after
        ∙ ap (soonest sofar) (sym (apart_step (get_or is k 0) (drop (k + 1) is) rec (from_on (at + long) (k + 1)) other (theirs (k + 1)))))
        ∙ ap (λ (ts : List (List ℕ)). by (get_or is k 0 ∷ drop (k + 1) is) (rec ∷ from_on (at + long) (k + 1)) ts) (sym theirs_here)
        ∙ ap₂ (λ (xs : List ℕ) (rs : List (List ℕ)). by xs rs (theirs k)) (sym (next_length is k p)) (sym cut_here)
        ∙ g.same

    -- it is refused
    pub going_refused : {number : ℕ} → 0 < number → number ≡ first_number (one_order digest node (get_or is k 0) rec)
        → own_refused number ≡ own_outcome digest node is places records lengths letter
    going_refused h e = early own_refused (one_order digest node (get_or is k 0) rec) later done (ap own_refused e) (λ z. omega arith) ∙ step

    -- it is not
    pub going_next : {next : Option ℕ} → 0 ≡ first_number (one_order digest node (get_or is k 0) rec)
        → apart_at next ≡ soonest sofar (apart_of (differ rec other) (get_or is k 0)) → Going next (at + long) (k + 1)
    unfolding one_order
    going_next e s =
        let order = one_order digest node (get_or is k 0) rec in
        record {
          sum = omega (arith, g.sum, ap total (next_length lengths k (omega arith)), total_cons long (drop (k + 1) lengths));
          same =
              ap (λ (a : Apart). going a (at + long) (k + 1)) s
              ∙ late own_refused order later done (clear order tt (sym e)) refl
              ∙ step;
        }

  -- all are done
  pub going_end : {first : Option ℕ} {at k : ℕ} → Going first at k → length is ≤ k
      → own_done (apart_at first) ≡ own_outcome digest node is places records lengths letter
  unfolding records_order first_apart
  going_end {first} {at} {k} g p =
      let over : drop k is ≡ [] = drop_of_length-le is {i = k} p in
      let a : Apart = apart_at first in
      let rs = from_on at k in
      passes own_refused [] (own_done (soonest a nowhere)) (ap own_done (sym (soonest_none a))) tt
      ∙ ap (λ (xs : List ℕ). verdict own_refused (records_order digest node xs rs) (own_done (soonest a (first_apart xs rs (theirs k))))) (sym over)
      ∙ g.same
