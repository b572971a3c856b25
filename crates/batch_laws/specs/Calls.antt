-- A run of appends and batches, refused ones among them; and two batches one after the other.
use Rattle.std.specs.Prelude.{true, false, List, [], ◌∷◌, ◌++◌, ℕ, ◌+◌, eqb}
use Rattle.records.specs.Records.{cut}
use Rattle.evidence_log.specs.Outcome.{AppendOutcome, append_refused}
use Rattle.evidence_log.specs.Appends.{State, step}
use Rattle.batch.specs.Batch.{batch_outcome}

-- a call: one record, or many, joined together with their lengths
pub data Call : Type 0 where
  one : List ℕ → Call
  many : List ℕ → List ℕ → Call

-- a batch: its records are taken where the number is 0
unfoldable pub step_many : (List ℕ → List ℕ) → State → List ℕ → List ℕ → State
step_many digest s whole lengths =
    let o = batch_outcome digest s.size whole lengths s.bytes in
    record {
      size = o.size;
      bytes = o.bytes;
      taken = elim (eqb o.number 0) [ true ↦ s.taken ++ cut lengths whole | false ↦ s.taken ];
    }

unfoldable pub step_call : (List ℕ → List ℕ) → State → Call → State
step_call digest s (one r) = step digest s r
step_call digest s (many whole lengths) = step_many digest s whole lengths

-- one call after the other
unfoldable pub run_calls : (List ℕ → List ℕ) → State → List Call → State
run_calls digest s [] = s
run_calls digest s (c ∷ cs) = run_calls digest (step_call digest s c) cs

-- an outcome o, and then p over what it left: o's refusal; or p's, with nothing written by either; or both counts
unfoldable pub afterwards : ℕ → List ℕ → AppendOutcome → AppendOutcome → AppendOutcome
afterwards size bs o p =
    elim (eqb o.number 0) [
      | true ↦
          elim (eqb p.number 0) [
            | true ↦ record { number = 0; size = p.size; hashes = o.hashes + p.hashes; bytes = p.bytes }
            | false ↦ append_refused size bs p.number
          ]
      | false ↦ o
    ]
