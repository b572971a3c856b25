-- What checking a passage letter returns, for every input and any digest function, and what the panel's programs print.
use Rattle.std.specs.Prelude.{true, false, List, ◌∷◌, ℕ, Result, ltb, length, drop}
use Rattle.refusals.specs.declared.Refused.{Refused}
use Rattle.refusals.specs.Numbers.{outcome_by}
use Rattle.order.specs.Order.{Refusal, ◌if◌, ◌is◌, ◌is_not◌, verdict}
use Rattle.wire.specs.Numbers.{number}
use Rattle.wire.specs.Slices.{part}
use Rattle.digest.specs.UnderKey.{under_key}
use Rattle.shape.specs.Sizes.{count_answer, leaves}
use Rattle.passage.specs.Bytes.{count_in}
use Rattle.passage.specs.Checking.{from7}
use Rattle.passage_fields.specs.Fields.{FieldsOutcome, fields_refused, fields_done}

-- ---- the check

-- the number, and how many records the letter has
pub record CheckOutcome : Type 0 where
  pub number : ℕ
  pub count : ℕ

-- a refusal has its number alone
abbrev pub check_refused : ℕ → CheckOutcome
check_refused number = record { number = number; count = 0 }

-- a letter that is accepted
abbrev pub check_counted : ℕ → CheckOutcome
check_counted count = record { number = 0; count = count }

-- the outcome by the answer, how many records there are or why it is refused
abbrev pub checked : Result ℕ Refused → CheckOutcome
checked r = outcome_by check_refused check_counted r

-- done: the number of records
abbrev pub check_done : List ℕ → CheckOutcome
check_done letter = record { number = 0; count = count_in letter }

-- ---- the outcomes

module _ (digest : List ℕ → List ℕ) where
  -- no leaf count up to 2^32 has this size; trusted root not 32 bytes; then from 7. The size is the caller's, never the letter's
  unfoldable pub check_order : ℕ → List ℕ → List ℕ → List Refusal
  check_order size root letter =
      1 if (count_answer size).number is 1 ∷ 12 if length root is_not 32 ∷ from7 digest size (leaves size) root letter

  -- one pass over a letter: the order, then its records
  unfoldable pub pass_outcome : ℕ → List ℕ → List ℕ → FieldsOutcome
  pass_outcome size root letter = verdict fields_refused (check_order size root letter) (fields_done letter)

  unfoldable pub check_outcome : ℕ → List ℕ → List ℕ → CheckOutcome
  check_outcome size root letter = verdict check_refused (check_order size root letter) (check_done letter)

  -- trusted size (8 bytes, big-endian), root (32) and one letter: the verdict number; 12 for input under 40 bytes
  unfoldable pub judged : List ℕ → ℕ
  judged input =
      elim (ltb (length input) 40)
      [ true ↦ 12 | false ↦ (check_outcome (number (part 0 8 input)) (part 8 32 input) (drop 40 input)).number ]

-- a key (32 bytes), and then the same under it: the verdict number; 24 for input under 32 bytes
abbrev pub judged_keyed : List ℕ → ℕ
judged_keyed input = under_key judged input
