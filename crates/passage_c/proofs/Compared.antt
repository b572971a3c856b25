-- How the call of the finder follows from the finder.
use mathlib.Core.Path.{◌≡◌, sym, ap, ap₂, ◌∙◌}
use mathlib.Core.List.{List}
use Prim.Native.Nat.{ℕ, ◌<◌}
use native.Mathlib.Omega.{arith}
use Rattle.digest.specs.Digest.{digest_in}
use Rattle.difference.specs.Findings.{finding_number}
use Rattle.findings.specs.declared.Named.{Named}
use Rattle.findings.specs.Outcome.{NamedOutcome, named_refused, named_found, finding_of, index_of}
use Rattle.kept.proofs.Kept.{kept_done, kept_left}
use Rattle.passage_finder.specs.Outcome.{find_outcome}
use Rattle.passage_c.specs.Calls.{find_left, find_call}

module _ (mode : List ℕ) (size : ℕ) (bs records lengths letter first second : List ℕ) (oldFound oldIndex : ℕ) (x y : List ℕ) where
  abbrev number : NamedOutcome → ℕ
  number o = o.number

  -- a refusal leaves what was there
  pub find_refused_lem : {n : ℕ} → 0 < n → named_refused x y n ≡ find_outcome (digest_in mode) size bs records lengths letter first second
      → find_left n oldFound oldIndex x y ≡ find_call mode size bs records lengths letter first second oldFound oldIndex
  unfolding find_call
  find_refused_lem h e =
      ap (λ (o : NamedOutcome). find_left o.number oldFound oldIndex o.first o.second) e
      ∙ sym (kept_left _ _ _ (λ z. omega (arith, ap number e ∙ z)))

  -- n is what is found, as a number, and i the index that it names
  pub find_done_lem : (f : Named) {n i : ℕ} → n ≡ finding_number (finding_of f) → i ≡ index_of f
      → named_found x y f ≡ find_outcome (digest_in mode) size bs records lengths letter first second
      → find_left 0 n i x y ≡ find_call mode size bs records lengths letter first second oldFound oldIndex
  unfolding find_call
  find_done_lem f p q e =
      ap₂ (λ (m j : ℕ). find_left 0 m j x y) p q
      ∙ ap (λ (o : NamedOutcome). find_left 0 (finding_number o.finding) o.index o.first o.second) e
      ∙ sym (kept_done _ _ _ (sym (ap number e)))
