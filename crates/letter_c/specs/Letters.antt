-- What the calls for letters answer, and what they leave behind each pointer: the outcome of the call below, with what was there kept on a refusal.
use Rattle.std.specs.Prelude.{List, ℕ}
use Rattle.digest.specs.Digest.{digest_in}
use Rattle.wire.specs.Writers.{WriteOutcome}
use Rattle.letter_writer.specs.Outcome.{write_outcome}
use Rattle.letter_checker.specs.Outcome.{CheckOutcome, check_outcome}
use Rattle.kept.specs.Kept.{or_kept, write_call}

-- ---- Written

-- our letter for an index; the length variable held `old`
unfoldable pub letter_write_call : List ℕ → ℕ → ℕ → List ℕ → List ℕ → List ℕ → ℕ → WriteOutcome
letter_write_call mode size index rec bs out old = write_call (write_outcome (digest_in mode) size index rec bs out) old

-- ---- Checked

-- the number, the index, and where the record starts in the letter and how long it is, at return
abbrev pub check_left : ℕ → ℕ → ℕ → ℕ → CheckOutcome
check_left number index start length = record { number = number; index = index; start = start; length = length }

-- the result variables held `oldIndex`, `oldStart` and `oldLength`
unfoldable pub letter_check_call : List ℕ → ℕ → List ℕ → List ℕ → ℕ → ℕ → ℕ → CheckOutcome
letter_check_call mode size root letter oldIndex oldStart oldLength =
    let o = check_outcome (digest_in mode) size root letter in
    or_kept o.number o (check_left o.number oldIndex oldStart oldLength)
