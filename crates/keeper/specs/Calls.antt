-- What the calls for C answer, and what they leave behind each pointer: the outcome of the call below, with what was there kept on a refusal.
use Rattle.std.specs.Prelude.{◌≡◌, List, ℕ, Result}
use Rattle.refusals.specs.declared.Refused.{Refused}
use Rattle.digest.specs.Digest.{digest_in}
use Rattle.shape.specs.Answers.{Answer}
use Rattle.kept.specs.Kept.{or_kept, Filled, filled, handed}
use Rattle.evidence_log.specs.declared.Appended.{Appended}
use Rattle.evidence_log.specs.Outcome.{AppendOutcome, appended, append_outcome, root_outcome}
use Rattle.batch.specs.Batch.{batch_outcome}

-- ---- Sizes, positions, counts

-- the number, and what stands behind the result pointer at return
abbrev pub answered : ℕ → ℕ → Answer
answered number value = record { number = number; value = value }

-- a result variable that held `old`: the answer's value where it is done
unfoldable pub over : ℕ → Answer → Answer
unfolding or_kept
over old a = or_kept a.number a (answered a.number old)

-- ---- Append

-- the number, the new size and the hash count behind their pointers, and the nodes, at return
abbrev pub append_left : ℕ → ℕ → ℕ → List ℕ → AppendOutcome
append_left number size hashes bs = record { number = number; size = size; hashes = hashes; bytes = bs }

-- the result variables held `oldSize` and `oldHashes`
unfoldable pub append_over : ℕ → ℕ → AppendOutcome → AppendOutcome
unfolding or_kept
append_over oldSize oldHashes o = or_kept o.number o (append_left o.number oldSize oldHashes o.bytes)

-- what an answer to any size, over any nodes, puts behind the two pointers
abbrev pub Grown : Result Appended Refused → ℕ → ℕ → ℕ → ℕ → ℕ → Type 0
Grown answer oldSize oldHashes number newSize hashes =
    (size : ℕ) (bs : List ℕ) → append_left number newSize hashes bs ≡ append_over oldSize oldHashes (appended size answer bs)

-- one record, and many
abbrev pub append_call : List ℕ → ℕ → List ℕ → List ℕ → ℕ → ℕ → AppendOutcome
append_call mode size rec bs oldSize oldHashes = append_over oldSize oldHashes (append_outcome (digest_in mode) size rec bs)

abbrev pub append_many_call : List ℕ → ℕ → List ℕ → List ℕ → List ℕ → ℕ → ℕ → AppendOutcome
append_many_call mode size whole lengths bs oldSize oldHashes = append_over oldSize oldHashes (batch_outcome (digest_in mode) size whole lengths bs)

-- ---- A digest written out

-- the digest of any bytes
unfoldable pub digest_call : List ℕ → List ℕ → List ℕ → Filled
digest_call mode bs out = handed (digest_in mode bs) out

-- the root, where there is one
unfoldable pub root_call : List ℕ → ℕ → List ℕ → List ℕ → Filled
root_call mode size bs out =
    let o = root_outcome (digest_in mode) size bs in
    or_kept o.number (handed o.root out) (filled o.number out)
