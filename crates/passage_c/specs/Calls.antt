-- What the calls of passages for C answer, and what they leave behind each pointer: the outcome of the call below, with what was there kept on a
-- refusal.
use Rattle.std.specs.Prelude.{List, ℕ}
use Rattle.digest.specs.Digest.{digest_in}
use Rattle.wire.specs.Writers.{WriteOutcome}
use Rattle.difference.specs.Findings.{finding_number}
use Rattle.kept.specs.Kept.{or_kept, write_call}
use Rattle.passage_writer.specs.Outcome.{write_outcome}
use Rattle.passage_checker.specs.Outcome.{CheckOutcome, check_outcome}
use Rattle.passage_records.specs.Outcome.{EntryOutcome, entry_outcome, EntriesOutcome, entries_outcome}
use Rattle.passage_finder.specs.Outcome.{find_outcome}

-- ---- Written

-- our letter for these indexes; the length variable held `old`
unfoldable pub write_passage_call : List ℕ → ℕ → List ℕ → List ℕ → List ℕ → List ℕ → List ℕ → ℕ → WriteOutcome
write_passage_call mode size indexes records lengths bs out old =
    write_call (write_outcome (digest_in mode) size indexes records lengths bs out) old

-- ---- Checked

-- the number, and how many records there are, at return
abbrev pub check_left : ℕ → ℕ → CheckOutcome
check_left number count = record { number = number; count = count }

-- the result variable held `old`
unfoldable pub check_call : List ℕ → ℕ → List ℕ → List ℕ → ℕ → CheckOutcome
check_call mode size root letter old =
    let o = check_outcome (digest_in mode) size root letter in
    or_kept o.number o (check_left o.number old)

-- the number, the index of record k, and where it starts in the letter and how long it is, at return
abbrev pub entry_left : ℕ → ℕ → ℕ → ℕ → EntryOutcome
entry_left number index start length = record { number = number; index = index; start = start; length = length }

-- the result variables held `oldIndex`, `oldStart` and `oldLength`
unfoldable pub entry_call : List ℕ → ℕ → List ℕ → List ℕ → ℕ → ℕ → ℕ → ℕ → EntryOutcome
entry_call mode size root letter k oldIndex oldStart oldLength =
    let o = entry_outcome (digest_in mode) size root letter k in
    or_kept o.number o (entry_left o.number oldIndex oldStart oldLength)

-- the number, how many records there are, and the three lists, at return
abbrev pub entries_left : ℕ → ℕ → List ℕ → List ℕ → List ℕ → EntriesOutcome
entries_left number count indexes starts lengths =
    record { number = number; count = count; indexes = indexes; starts = starts; lengths = lengths }

-- the result variable held `old`
unfoldable pub entries_call : List ℕ → ℕ → List ℕ → List ℕ → List ℕ → List ℕ → List ℕ → ℕ → EntriesOutcome
entries_call mode size root letter indexes starts lengths old =
    let o = entries_outcome (digest_in mode) size root letter indexes starts lengths in
    or_kept o.number o (entries_left o.number old o.indexes o.starts o.lengths)

-- ---- Compared

-- the number, what is found, the index that it names, and the two buffers, at return: the first is for the log's input, the second for the letter's
pub record FindLeft : Type 0 where
  pub number : ℕ
  pub found : ℕ
  pub index : ℕ
  pub first : List ℕ
  pub second : List ℕ

abbrev pub find_left : ℕ → ℕ → ℕ → List ℕ → List ℕ → FindLeft
find_left number found index first second =
    record { number = number; found = found; index = index; first = first; second = second }

-- the result variables held `oldFound` and `oldIndex`
unfoldable pub find_call : List ℕ → ℕ → List ℕ → List ℕ → List ℕ → List ℕ → List ℕ → List ℕ → ℕ → ℕ → FindLeft
find_call mode size bs records lengths letter first second oldFound oldIndex =
    let o = find_outcome (digest_in mode) size bs records lengths letter first second in
    or_kept o.number (find_left 0 (finding_number o.finding) o.index o.first o.second)
    (find_left o.number oldFound oldIndex o.first o.second)
