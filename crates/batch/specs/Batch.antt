-- Many records in one append: what appending them one by one meets and counts, and by it what the call answers and leaves, for every input and any
-- digest function. `whole` is the records joined together, `lengths` the length of each, `bs` the buffer of nodes.
use Rattle.std.specs.Prelude.{true, false, List, [], ◌∷◌, ℕ, ◌+◌, eqb, length}
use Rattle.order.specs.Order.{Refusal, ◌if◌, ◌is◌, ◌is_not◌, ◌above◌, verdict}
use Rattle.shape.specs.Sizes.{count_answer}
use Rattle.records.specs.Records.{total, cut}
use Rattle.evidence_log.specs.Outcome.{AppendOutcome, append_refused, append_outcome}
use Rattle.evidence_log.specs.Appends.{State, step, run}

-- ---- One by one

-- before the first record
abbrev pub begun : ℕ → List ℕ → State
begun size bs = record { size = size; bytes = bs; taken = [] }

-- what appending one record more answers
abbrev pub next : (List ℕ → List ℕ) → State → List ℕ → AppendOutcome
next digest s r = append_outcome digest s.size r s.bytes

-- the first refusal that appending one by one meets; 0 where it meets none
unfoldable pub met : (List ℕ → List ℕ) → State → List (List ℕ) → ℕ
met digest s [] = 0
met digest s (r ∷ rs) =
    elim (eqb (next digest s r).number 0) [ true ↦ met digest (step digest s r) rs | false ↦ (next digest s r).number ]

-- the total hash count of appending one by one
unfoldable pub hash_total : (List ℕ → List ℕ) → State → List (List ℕ) → ℕ
hash_total digest s [] = 0
hash_total digest s (r ∷ rs) = (next digest s r).hashes + hash_total digest (step digest s r) rs

-- ---- The call

-- no leaf count up to 2^32 has this size; lengths that don't add up to the joined bytes; the first refusal that one by one would meet
unfoldable pub batch_order : (List ℕ → List ℕ) → ℕ → List ℕ → List ℕ → List ℕ → List Refusal
batch_order digest size whole lengths bs =
    let number = met digest (begun size bs) (cut lengths whole) in
    1 if (count_answer size).number is 1 ∷ 16 if total lengths is_not length whole ∷ number if number above 0 ∷ []

-- done: the same size, node bytes and total hash count as appending one by one
unfoldable pub batch_done : (List ℕ → List ℕ) → ℕ → List ℕ → List ℕ → List ℕ → AppendOutcome
batch_done digest size whole lengths bs =
    let s = run digest (begun size bs) (cut lengths whole) in
    record { number = 0; size = s.size; hashes = hash_total digest (begun size bs) (cut lengths whole); bytes = s.bytes }

-- a refusal: the size that was given, count 0, and nothing is written
unfoldable pub batch_outcome : (List ℕ → List ℕ) → ℕ → List ℕ → List ℕ → List ℕ → AppendOutcome
batch_outcome digest size whole lengths bs =
    verdict (append_refused size bs) (batch_order digest size whole lengths bs) (batch_done digest size whole lengths bs)
