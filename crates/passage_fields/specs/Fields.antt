-- What taking a passage letter apart returns, for every input; a record as a part of the letter.
use Rattle.std.specs.Prelude.{List, ◌∷◌, ◌++◌, ℕ, ◌+◌, ◌-◌, min, Result, length}
use Rattle.std.specs.Borrow.{Bor}
use Rattle.refusals.specs.declared.Refused.{Refused}
use Rattle.refusals.specs.Numbers.{outcome_by}
use Rattle.order.specs.Order.{Refusal, ◌if◌, ◌under◌, ◌above◌, ◌is_not◌, verdict}
use Rattle.wire.specs.Slices.{zeros}
use Rattle.wire.specs.Lent.{Part}
use Rattle.letter.specs.Bytes.{size_in}
use Rattle.passage.specs.Bytes.{head, frame, count_in, record_at, places, indexes_in, end_in}
use Rattle.passage.specs.Request.{most_records}
use Rattle.passage.specs.Checking.{entries_order, fields_order}
use Rattle.passage_fields.specs.declared.Fields.{Fields}

-- the record whose 12 bytes begin at a place: its bytes, as far as the letter goes, lie behind them; past the letter's end they are empty, at its end
abbrev pub record_part : ℕ → Bor (List ℕ) → Part
record_part at r = record { bytes = record_at r.now at; place = (r.ref_ptr.0, r.ref_ptr.1 + min (at + frame) (length r.now)) }

-- the number, how many records there are, the place behind them, their indexes, and the places where they begin
pub record FieldsOutcome : Type 0 where
  pub number : ℕ
  pub count : ℕ
  pub end : ℕ
  pub indexes : List ℕ
  pub places : List ℕ

-- numbers, with zeros behind them up to 256
abbrev pub filled : List ℕ → List ℕ
filled xs = xs ++ zeros (most_records - length xs)

-- a refusal has its number alone
abbrev pub fields_refused : ℕ → FieldsOutcome
fields_refused number = record { number = number; count = 0; end = 0; indexes = zeros most_records; places = zeros most_records }

-- a letter that is taken apart
abbrev pub fields_taken : Fields → FieldsOutcome
fields_taken f = record { number = 0; count = f.count; end = f.end; indexes = f.indexes; places = f.places }

-- the outcome by the answer, the fields or why there are none
abbrev pub taken_apart : Result Fields Refused → FieldsOutcome
taken_apart r = outcome_by fields_refused fields_taken r

-- done: the records that stand in it
abbrev pub fields_done : List ℕ → FieldsOutcome
fields_done letter =
    record {
      number = 0;
      count = count_in letter;
      end = end_in letter;
      indexes = filled (indexes_in letter);
      places = filled (places letter);
    }

-- the order of the fields but for the exact length, the last test (`fields_parts`)
unfoldable pub front_order : ℕ → ℕ → List ℕ → List Refusal
front_order size n letter =
    7 if length letter under head
    ∷ 8 if size_in letter is_not size
    ∷ 19 if count_in letter under 1
    ∷ 19 if count_in letter above most_records
    ∷ entries_order n letter head 0 (count_in letter)

unfoldable pub front_outcome : ℕ → ℕ → List ℕ → FieldsOutcome
front_outcome size n letter = verdict fields_refused (front_order size n letter) (fields_done letter)

unfoldable pub fields_outcome : ℕ → ℕ → List ℕ → FieldsOutcome
fields_outcome size n letter = verdict fields_refused (fields_order size n letter) (fields_done letter)
