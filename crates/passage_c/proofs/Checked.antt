-- How the calls that check a passage letter follow from the calls below.
use mathlib.Core.Path.{◌≡◌, sym, ap, ◌∙◌}
use mathlib.Core.List.{List}
use Prim.Native.Nat.{ℕ, ◌<◌}
use native.Mathlib.Omega.{arith}
use Rattle.std.specs.Prelude.{Result, Ok, Err}
use Rattle.refusals.specs.declared.Refused.{Refused}
use Rattle.refusals.specs.Numbers.{number_in}
use Rattle.refusals.proofs.Laws.{number_above}
use Rattle.digest.specs.Digest.{digest_in}
use Rattle.kept.specs.Kept.{value_or}
use Rattle.kept.proofs.Kept.{kept_done, kept_left}
use Rattle.passage_checker.specs.Outcome.{CheckOutcome, checked, check_outcome}
use Rattle.passage_records.specs.Outcome.{EntryOutcome, entry_refused, entry_outcome, EntriesOutcome, listed, entries_outcome}
use Rattle.passage_c.specs.Calls.{check_left, check_call, entry_left, entry_call, entries_left, entries_call}

module _ (mode : List ℕ) (size : ℕ) (root letter : List ℕ) where
  -- a check: the number of records
  abbrev check_number : CheckOutcome → ℕ
  check_number o = o.number

  pub check_put : (old : ℕ) (r : Result ℕ Refused) → checked r ≡ check_outcome (digest_in mode) size root letter
      → check_left (number_in r) (value_or old r) ≡ check_call mode size root letter old
  unfolding check_call
  check_put old (Ok n) e = e ∙ sym (kept_done _ _ _ (sym (ap check_number e)))
  check_put old (Err why) e =
      ap (λ (o : CheckOutcome). check_left o.number old) e
      ∙ sym (kept_left _ _ _ (λ z. omega (arith, number_above why, ap check_number e ∙ z)))

  -- one record: three results
  module _ (k oldIndex oldStart oldLength : ℕ) where
    abbrev entry_number : EntryOutcome → ℕ
    entry_number o = o.number

    pub entry_refused_lem : {n : ℕ} → 0 < n → entry_refused n ≡ entry_outcome (digest_in mode) size root letter k
        → entry_left n oldIndex oldStart oldLength ≡ entry_call mode size root letter k oldIndex oldStart oldLength
    unfolding entry_call
    entry_refused_lem h e =
        ap (λ (o : EntryOutcome). entry_left o.number oldIndex oldStart oldLength) e
        ∙ sym (kept_left _ _ _ (λ z. omega (arith, ap entry_number e ∙ z)))

    pub entry_done_lem : {i s l : ℕ} → entry_left 0 i s l ≡ entry_outcome (digest_in mode) size root letter k
        → entry_left 0 i s l ≡ entry_call mode size root letter k oldIndex oldStart oldLength
    unfolding entry_call
    entry_done_lem e = e ∙ sym (kept_done _ _ _ (sym (ap entry_number e)))

  -- all records: their number, and the three lists as the checker leaves them
  module _ (indexes starts lengths : List ℕ) (old : ℕ) (is ss ls : List ℕ) where
    abbrev entries_number : EntriesOutcome → ℕ
    entries_number o = o.number

    pub entries_put : (r : Result ℕ Refused) → listed r is ss ls ≡ entries_outcome (digest_in mode) size root letter indexes starts lengths
        → entries_left (number_in r) (value_or old r) is ss ls ≡ entries_call mode size root letter indexes starts lengths old
    unfolding entries_call
    entries_put (Ok n) e = e ∙ sym (kept_done _ _ _ (sym (ap entries_number e)))
    entries_put (Err why) e =
        ap (λ (o : EntriesOutcome). entries_left o.number old o.indexes o.starts o.lengths) e
        ∙ sym (kept_left _ _ _ (λ z. omega (arith, number_above why, ap entries_number e ∙ z)))
