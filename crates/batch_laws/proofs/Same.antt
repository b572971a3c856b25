-- Two states with one size and one buffer go on alike, whatever was taken before, over any digest function.
use mathlib.Core.Path.{◌≡◌}
use mathlib.Core.List.{List}
use Prim.Native.Nat.{ℕ}
use Rattle.evidence_log.specs.Outcome.{AppendOutcome, append_outcome}
use Rattle.evidence_log.specs.Appends.{State, step, run}
use Rattle.batch.specs.Batch.{next, met, hash_total}
use Rattle.batch_laws.proofs.Runs.{run_alike, met_alike, total_alike}

abbrev pub Same : State → State → Type 0
Same s t = (s.size ≡ t.size) × (s.bytes ≡ t.bytes)

module _ (digest : List ℕ → List ℕ) where
  same_next : {X : Type 0} (f : AppendOutcome → X) (s t : State) (r : List ℕ) → Same s t → f (next digest s r) ≡ f (next digest t r)
  same_next f s t r e = λ i. f (append_outcome digest (e.0 i) r (e.1 i))

  same_step : (s t : State) (r : List ℕ) → Same s t → Same (step digest s r) (step digest t r)
  unfolding step
  same_step s t r e = (same_next (λ o. o.size) s t r e, same_next (λ o. o.bytes) s t r e)

  module _ (s t : State) (rs : List (List ℕ)) (e : Same s t) where
    pub same_run : Same (run digest s rs) (run digest t rs)
    same_run = run_alike digest Same (same_next (λ o. o.number)) (same_next (λ o. o.hashes)) same_step s t rs e

    pub same_met : met digest s rs ≡ met digest t rs
    same_met = met_alike digest Same (same_next (λ o. o.number)) (same_next (λ o. o.hashes)) same_step s t rs e

    pub same_total : hash_total digest s rs ≡ hash_total digest t rs
    same_total = total_alike digest Same (same_next (λ o. o.number)) (same_next (λ o. o.hashes)) same_step s t rs e
