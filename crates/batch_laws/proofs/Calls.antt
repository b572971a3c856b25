-- Any run of appends and batches, refused ones among them, is a run of appends; so what it leaves is sound. Over any digest function with digests
-- of 32 bytes.
use mathlib.Core.Path.{◌≡◌, refl, sym, ap, subst, ◌∙◌}
use mathlib.Core.Logic.{by_cases, ◌≢◌}
use mathlib.Core.List.{List, [], ◌∷◌, ◌++◌}
use Prim.Native.Nat.{ℕ}
use native.Mathlib.Decide.{ℕ_discrete}
use borrow.Author.Tests.{eq-eqb, ne_eqb}
use lib.ListN.{length}
use Rattle.records.specs.Records.{cut}
use Rattle.evidence_log.specs.Outcome.{AppendOutcome}
use Rattle.evidence_log.specs.Appends.{State, run, empty, Sound}
use Rattle.evidence_log.proofs.Appends.{run_sound}
use Rattle.batch.specs.Batch.{begun, batch_done, batch_outcome}
use Rattle.batch_laws.specs.Calls.{Call, one, many, step_many, step_call, run_calls}
use Rattle.batch_laws.proofs.Runs.{run_both, run_takes}
use Rattle.batch_laws.proofs.Same.{same_run, same_met}
use Rattle.batch_laws.proofs.Laws.{batch_taken, batch_refused}

module _ (digest : List ℕ → List ℕ) (digest_32 : (x : List ℕ) → length (digest x) ≡ 32) where
  module _ (s : State) (whole lengths : List ℕ) where
    abbrev outcome : AppendOutcome
    outcome = batch_outcome digest s.size whole lengths s.bytes

    -- done: the state that appending one by one leaves, every record taken
    pub many_done : outcome.number ≡ 0 → step_many digest s whole lengths ≡ run digest s (cut lengths whole)
    unfolding step_many batch_done
    many_done z =
        let rs = cut lengths whole in
        let d = batch_taken digest s.size whole lengths s.bytes z in
        let e = same_run digest (begun s.size s.bytes) s rs (refl, refl) in
        let n = sym (same_met digest (begun s.size s.bytes) s rs (refl, refl)) ∙ d.none in
        let size : outcome.size ≡ (run digest s rs).size = ap (λ (x : AppendOutcome). x.size) d.is ∙ e.0 in
        let bytes : outcome.bytes ≡ (run digest s rs).bytes = ap (λ (x : AppendOutcome). x.bytes) d.is ∙ e.1 in
        let taken : (step_many digest s whole lengths).taken ≡ (run digest s rs).taken =
        rw (eq-eqb outcome.number 0 z, step_many) (sym (run_takes digest digest_32 s rs n)) in
        λ i. record { size = size i; bytes = bytes i; taken = taken i }

    -- refused: all as it was
    pub many_left : outcome.number ≢ 0 → step_many digest s whole lengths ≡ s
    unfolding step_many
    many_left z =
        let e = batch_refused digest s.size whole lengths s.bytes z in
        let taken : (step_many digest s whole lengths).taken ≡ s.taken = rw (ne_eqb outcome.number 0 z, step_many) refl in
        λ i. record { size = (e i).size; bytes = (e i).bytes; taken = taken i }

    many_run : (rs : List (List ℕ)) × (step_many digest s whole lengths ≡ run digest s rs)
    unfolding run
    many_run = by_cases (ℕ_discrete outcome.number 0) (λ z. (cut lengths whole, many_done z)) (λ z. ([], many_left z))

  call_run : (s : State) (c : Call) → (rs : List (List ℕ)) × (step_call digest s c ≡ run digest s rs)
  unfolding step_call run
  call_run s (one r) = (r ∷ [], refl)
  call_run s (many whole lengths) = many_run s whole lengths

  -- a run of appends: those of the records that single appends were given, and of those that batches took
  pub calls_run : (s : State) (cs : List Call) → (rs : List (List ℕ)) × (run_calls digest s cs ≡ run digest s rs)
  unfolding run_calls run
  calls_run s [] = ([], refl)
  calls_run s (c ∷ cs) =
      let a = call_run s c in
      let b = calls_run (step_call digest s c) cs in
      (a.0 ++ b.0, b.1 ∙ ap (λ (t : State). run digest t b.0) a.1 ∙ sym (run_both digest s a.0 b.0))

  -- to an empty log: the nodes of the records that were taken, and every byte beyond them as it was
  pub calls_sound : (bs : List ℕ) (cs : List Call) → Sound digest bs (run_calls digest (empty bs) cs)
  calls_sound bs cs =
      let r = calls_run (empty bs) cs in
      subst (λ (s : State). Sound digest bs s) (sym r.1) (run_sound digest digest_32 bs r.0)
