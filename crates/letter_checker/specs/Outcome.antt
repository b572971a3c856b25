-- What checking a letter returns, for every input and any digest function; the record beside it; what the panel's programs print.
use Rattle.std.specs.Prelude.{true, false, List, ◌∷◌, ℕ, Result, ltb, length, drop}
use Rattle.std.specs.Borrow.{Bor}
use Rattle.refusals.specs.declared.Refused.{Refused}
use Rattle.refusals.specs.Numbers.{outcome_by}
use Rattle.order.specs.Order.{Refusal, ◌if◌, ◌is◌, ◌is_not◌, verdict}
use Rattle.wire.specs.Numbers.{number}
use Rattle.wire.specs.Slices.{part}
use Rattle.wire.specs.Lent.{Part, part_of}
use Rattle.digest.specs.UnderKey.{under_key}
use Rattle.shape.specs.Sizes.{count_answer, leaves}
use Rattle.letter.specs.declared.Fields.{Fields}
use Rattle.letter.specs.Bytes.{head, index_in, stated_in}
use Rattle.letter.specs.Checking.{from7}

-- the number, the index, and the record as a part of the letter: where it starts in it, and its length
pub record CheckOutcome : Type 0 where
  pub number : ℕ
  pub index : ℕ
  pub start : ℕ
  pub length : ℕ

-- a refusal: its number, index 0, and the record an empty part at the start
abbrev pub check_refused : ℕ → CheckOutcome
check_refused number = record { number = number; index = 0; start = 0; length = 0 }

-- done: the index, and the record, which follows size, index and record length
abbrev pub check_done : List ℕ → CheckOutcome
check_done letter = record { number = 0; index = index_in letter; start = head; length = stated_in letter }

-- the outcome by the answer, the fields or why there are none
abbrev pub check_told : Fields → CheckOutcome
check_told f = record { number = 0; index = f.index; start = f.start; length = f.length }

abbrev pub checked : Result Fields Refused → CheckOutcome
checked r = outcome_by check_refused check_told r

-- the record's bytes, by the outcome
unfoldable pub record_by : CheckOutcome → List ℕ → List ℕ
record_by o letter = part o.start o.length letter

module _ (digest : List ℕ → List ℕ) where
  -- no leaf count up to 2^32 has this size; trusted root not 32 bytes; then from 7. The size is the caller's, never the letter's
  unfoldable pub check_order : ℕ → List ℕ → List ℕ → List Refusal
  check_order size root letter =
      1 if (count_answer size).number is 1 ∷ 12 if length root is_not 32 ∷ from7 digest size (leaves size) root letter

  unfoldable pub check_outcome : ℕ → List ℕ → List ℕ → CheckOutcome
  check_outcome size root letter = verdict check_refused (check_order size root letter) (check_done letter)

  -- the record as a part of the letter
  abbrev pub record_part : ℕ → List ℕ → Bor (List ℕ) → Part
  record_part size root r = let o = check_outcome size root r.now in part_of o.start o.length r

  -- trusted size (8 bytes, big-endian), root (32) and one letter: the verdict number; 12 for input under 40 bytes
  unfoldable pub judged : List ℕ → ℕ
  judged input =
      elim (ltb (length input) 40)
      [ true ↦ 12 | false ↦ (check_outcome (number (part 0 8 input)) (part 8 32 input) (drop 40 input)).number ]

-- a key (32 bytes), and then the same under it: the verdict number; 24 for input under 32 bytes
abbrev pub judged_keyed : List ℕ → ℕ
judged_keyed input = under_key judged input
