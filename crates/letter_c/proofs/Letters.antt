-- How the call that checks a letter follows from the checker.
use mathlib.Core.Logic.{◌≢◌}
use mathlib.Core.Path.{◌≡◌, sym, ap, ◌∙◌}
use mathlib.Core.List.{List}
use Prim.Native.Nat.{ℕ}
use Rattle.digest.specs.Digest.{digest_in}
use Rattle.letter_checker.specs.Outcome.{CheckOutcome, check_refused, check_outcome}
use Rattle.letter_c.specs.Letters.{check_left, letter_check_call}
use Rattle.kept.proofs.Kept.{kept_done, kept_left}

module _ (mode : List ℕ) (size : ℕ) (root letter : List ℕ) (oldIndex oldStart oldLength : ℕ) where
  abbrev number : CheckOutcome → ℕ
  number o = o.number

  -- a refusal leaves what was there; a done check puts its three results behind the pointers
  pub check_refused_lem : (n : ℕ) → check_refused n ≡ check_outcome (digest_in mode) size root letter → n ≢ 0
      → check_left n oldIndex oldStart oldLength ≡ letter_check_call mode size root letter oldIndex oldStart oldLength
  unfolding letter_check_call
  check_refused_lem n e k =
      ap (λ (o : CheckOutcome). check_left o.number oldIndex oldStart oldLength) e ∙ sym (kept_left _ _ _ (λ z. k (ap number e ∙ z)))

  pub check_done_lem : (i s l : ℕ) → check_left 0 i s l ≡ check_outcome (digest_in mode) size root letter
      → check_left 0 i s l ≡ letter_check_call mode size root letter oldIndex oldStart oldLength
  unfolding letter_check_call
  check_done_lem i s l e = e ∙ sym (kept_done _ _ _ (sym (ap number e)))
