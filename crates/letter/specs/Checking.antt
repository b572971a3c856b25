-- The order that checks a letter, from 7 on: the checker and the finder share it.
use Rattle.std.specs.Prelude.{List, [], ◌∷◌, ◌++◌, ℕ, ◌+◌, ◌*◌, Result, length}
use Rattle.refusals.specs.declared.Refused.{Refused}
use Rattle.refusals.specs.Numbers.{outcome_by}
use Rattle.wire.specs.Limits.{longest_record}
use Rattle.order.specs.Order.{Refusal, ◌if◌, ◌under◌, ◌above◌, ◌not_below◌, ◌is_not◌, verdict}
use Rattle.wire.specs.Slices.{differ}
use Rattle.letter.specs.Bytes.{head, size_in, index_in, stated_in}
use Rattle.letter.specs.Items.{item_count, worked_root}
use Rattle.letter.specs.declared.Fields.{Fields}

-- the number of items that a letter has for a log of n leaves
abbrev pub items_for : ℕ → List ℕ → ℕ
items_for n letter = item_count n (index_in letter)

-- the exact length of a letter for a log of n leaves
abbrev pub exact_length : ℕ → List ℕ → ℕ
exact_length n letter = head + stated_in letter + 32 * items_for n letter

-- behind the size: index not below the leaf count; stated record length above 16,384; not of its exact length
unfoldable pub behind_order : ℕ → List ℕ → List Refusal
behind_order n letter =
    5 if index_in letter not_below n
    ∷ 3 if stated_in letter above longest_record
    ∷ 7 if length letter is_not exact_length n letter
    ∷ []

-- letter under 20 bytes; letter names another size; then what stands behind the size
unfoldable pub fields_order : ℕ → ℕ → List ℕ → List Refusal
fields_order size n letter = 7 if length letter under head ∷ 8 if size_in letter is_not size ∷ behind_order n letter

-- the checking order from 7: the fields, then 9, root worked out from the letter differs
unfoldable pub from7 : (List ℕ → List ℕ) → ℕ → ℕ → List ℕ → List ℕ → List Refusal
from7 digest size n root letter = fields_order size n letter ++ (9 if differ root (worked_root digest n letter) is_not 0 ∷ [])

-- what taking a letter apart returns: the number, the index, and where the record begins and how long it is
pub record FieldsOutcome : Type 0 where
  pub number : ℕ
  pub index : ℕ
  pub start : ℕ
  pub length : ℕ

-- a refusal has its number alone
abbrev pub fields_refused : ℕ → FieldsOutcome
fields_refused number = record { number = number; index = 0; start = 0; length = 0 }

-- done: the fields that stand in it
abbrev pub fields_done : List ℕ → FieldsOutcome
fields_done letter = record { number = 0; index = index_in letter; start = head; length = stated_in letter }

-- the outcome by the answer, the fields or why there are none
abbrev pub fields_told : Fields → FieldsOutcome
fields_told f = record { number = 0; index = f.index; start = f.start; length = f.length }

abbrev pub taken_apart : Result Fields Refused → FieldsOutcome
taken_apart r = outcome_by fields_refused fields_told r

-- behind the size alone, and all
unfoldable pub behind_outcome : ℕ → List ℕ → FieldsOutcome
behind_outcome n letter = verdict fields_refused (behind_order n letter) (fields_done letter)

unfoldable pub fields_outcome : ℕ → ℕ → List ℕ → FieldsOutcome
fields_outcome size n letter = verdict fields_refused (fields_order size n letter) (fields_done letter)
