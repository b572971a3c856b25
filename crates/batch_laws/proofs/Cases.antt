-- The four cases of a batch's outcome, over any digest function.
use mathlib.Core.Path.{◌≡◌, refl, sym}
use mathlib.Core.Logic.{by_cases, ◌≢◌}
use mathlib.Core.List.{List}
use Prim.Native.Nat.{ℕ}
use native.Mathlib.Decide.{ℕ_discrete}
use lib.ListN.{length}
use Rattle.shape.specs.Sizes.{count_answer}
use Rattle.records.specs.Records.{total}
use Rattle.evidence_log.specs.Outcome.{AppendOutcome, append_refused}
use Rattle.batch.specs.Batch.{batch_done, batch_outcome}
use Rattle.batch.proofs.Outcome.{meets, batch_1, batch_16, batch_met, batch_done_lem}

module _ (digest : List ℕ → List ℕ) (size : ℕ) (whole lengths bs : List ℕ) where
  abbrev outcome : AppendOutcome
  outcome = batch_outcome digest size whole lengths bs

  pub data Cases : Type 0 where
    no_count : (count_answer size).number ≡ 1 → outcome ≡ append_refused size bs 1 → Cases
    no_sum : (count_answer size).number ≢ 1 → total lengths ≢ length whole → outcome ≡ append_refused size bs 16 → Cases
    one_refused : (count_answer size).number ≢ 1 → total lengths ≡ length whole → meets digest size whole lengths bs ≢ 0
        → outcome ≡ append_refused size bs (meets digest size whole lengths bs) → Cases
    all_done : (count_answer size).number ≢ 1 → total lengths ≡ length whole → meets digest size whole lengths bs ≡ 0
        → outcome ≡ batch_done digest size whole lengths bs → Cases

  pub batch_cases : Cases
  batch_cases =
      by_cases (ℕ_discrete (count_answer size).number 1) (λ c. no_count c (sym (batch_1 digest size whole lengths bs refl c)))
      (λ c.
      by_cases (ℕ_discrete (total lengths) (length whole))
      (λ s.
      by_cases (ℕ_discrete (meets digest size whole lengths bs) 0) (λ z. all_done c s z (sym (batch_done_lem digest size whole lengths bs c s refl z)))
      (λ z. one_refused c s z (sym (batch_met digest size whole lengths bs c s refl z))))
      (λ s. no_sum c s (sym (batch_16 digest size whole lengths bs c refl s))))
