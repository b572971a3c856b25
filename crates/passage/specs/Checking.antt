-- The order that checks a passage letter, from 7 on: the checker and the finder share it.
use Rattle.std.specs.Prelude.{List, [], ◌∷◌, ◌++◌, ℕ, zero, suc, ◌+◌, length}
use Rattle.wire.specs.Limits.{longest_record}
use Rattle.wire.specs.Slices.{differ}
use Rattle.order.specs.Order.{Refusal, ◌if◌, ◌under◌, ◌above◌, ◌not_below◌, ◌is_not◌}
use Rattle.letter.specs.Bytes.{size_in}
use Rattle.passage.specs.Bytes.{head, frame, count_in, index_at, stated_at, behind_at, indexes_in, lengths_in}
use Rattle.passage.specs.Request.{most_records}
use Rattle.passage.specs.Digests.{exact_length, worked_root}

-- one record at a place: its 12 bytes cut off; its index not above the last, whose successor is the floor; index not below the leaf count; stated
-- length above 16,384; the record cut off
unfoldable pub record_order : ℕ → List ℕ → ℕ → ℕ → List Refusal
record_order n letter at floor =
    7 if length letter under (at + frame)
    ∷ 19 if index_at letter at under floor
    ∷ 5 if index_at letter at not_below n
    ∷ 3 if stated_at letter at above longest_record
    ∷ 7 if length letter under behind_at letter at
    ∷ []

-- k records from a place on, each in turn
unfoldable pub entries_order : ℕ → List ℕ → ℕ → ℕ → ℕ → List Refusal
entries_order n letter at floor zero = []
entries_order n letter at floor (suc k) =
    record_order n letter at floor ++ entries_order n letter (behind_at letter at) (suc (index_at letter at)) k

-- the exact length of a letter for a log of n leaves
abbrev pub exact_for : ℕ → List ℕ → ℕ
exact_for n letter = exact_length n (indexes_in letter) (lengths_in letter)

-- letter under 10 bytes; letter names another size; its number of records not 1 to 256; each record; not of its exact length
unfoldable pub fields_order : ℕ → ℕ → List ℕ → List Refusal
fields_order size n letter =
    7 if length letter under head
    ∷ 8 if size_in letter is_not size
    ∷ 19 if count_in letter under 1
    ∷ 19 if count_in letter above most_records
    ∷ entries_order n letter head 0 (count_in letter)
    ++ (7 if length letter is_not exact_for n letter ∷ [])

-- the checking order from 7: the fields, then 9, root worked out from the letter differs
unfoldable pub from7 : (List ℕ → List ℕ) → ℕ → ℕ → List ℕ → List ℕ → List Refusal
from7 digest size n root letter = fields_order size n letter ++ (9 if differ root (worked_root digest n letter) is_not 0 ∷ [])
