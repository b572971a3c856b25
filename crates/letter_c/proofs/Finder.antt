-- How the call of the finder follows from the finder.
use mathlib.Core.Logic.{◌≢◌}
use mathlib.Core.Path.{◌≡◌, sym, ap, ◌∙◌}
use mathlib.Core.List.{List}
use Prim.Native.Nat.{ℕ}
use Rattle.digest.specs.Digest.{digest_in}
use Rattle.difference.specs.declared.Finding.{Finding}
use Rattle.difference.specs.Findings.{finding_of, finding_number}
use Rattle.difference.specs.Outcome.{FindOutcome, find_refused, find_found}
use Rattle.letter_finder.specs.Outcome.{find_outcome}
use Rattle.letter_c.specs.Finder.{find_left, find_call}
use Rattle.kept.proofs.Kept.{kept_done, kept_left}

module _ (mode : List ℕ) (size : ℕ) (bs rec letter first second : List ℕ) (old : ℕ) (x y : List ℕ) where
  abbrev number : FindOutcome → ℕ
  number o = o.number

  -- a refusal leaves what was there
  pub find_refused_lem : (n : ℕ) → find_refused x y n ≡ find_outcome (digest_in mode) size bs rec letter first second → n ≢ 0
      → find_left n old x y ≡ find_call mode size bs rec letter first second old
  unfolding find_call
  find_refused_lem n e k =
      ap (λ (o : FindOutcome). find_left o.number old o.first o.second) e ∙ sym (kept_left _ _ _ (λ z. k (ap number e ∙ z)))

  -- n is what is found, as a number
  pub find_done_lem : (f : Finding) (n : ℕ) → find_found x y f ≡ find_outcome (digest_in mode) size bs rec letter first second
      → n ≡ finding_number (finding_of f) → find_left 0 n x y ≡ find_call mode size bs rec letter first second old
  unfolding find_call
  find_done_lem f n e p =
      ap (λ (n : ℕ). find_left 0 n x y) p
      ∙ ap (λ (o : FindOutcome). find_left 0 (finding_number o.finding) o.first o.second) e
      ∙ sym (kept_done _ _ _ (sym (ap number e)))
