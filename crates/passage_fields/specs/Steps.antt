-- What the code's own steps are called, which no public contract cites: what follows a record's 12 bytes, the tests of one record, so many records.
use Rattle.std.specs.Prelude.{List, map, ℕ, ◌+◌, ◌≤◌, min, length, drop}
use Rattle.std.specs.Borrow.{Bor}
use Rattle.order.specs.Order.{verdict}
use Rattle.wire.specs.Lent.{Part}
use Rattle.passage.specs.Bytes.{head, frame, index_at, places_from, end_from}
use Rattle.passage.specs.Request.{most_records}
use Rattle.passage.specs.Checking.{entries_order}
use Rattle.passage_fields.specs.Fields.{FieldsOutcome, filled, fields_refused}

-- what follows the 12 bytes at a place; past the end, the empty part at the end
abbrev pub rest_part : ℕ → Bor (List ℕ) → Part
rest_part at r = record { bytes = drop (at + frame) r.now; place = (r.ref_ptr.0, r.ref_ptr.1 + min (at + frame) (length r.now)) }

-- a letter with a head, and a number of records that has room
pub record Ready (letter : List ℕ) (count : ℕ) : Type 0 where
  pub headed : head ≤ length letter
  pub few : count ≤ most_records

-- k records from the head on
abbrev pub records_done : List ℕ → ℕ → FieldsOutcome
records_done letter k =
    record {
      number = 0;
      count = k;
      end = end_from letter head k;
      indexes = filled (map (index_at letter) (places_from letter head k));
      places = filled (places_from letter head k);
    }

-- the first refusal that they meet, or all of them
unfoldable pub records_outcome : ℕ → List ℕ → ℕ → FieldsOutcome
records_outcome n letter k = verdict fields_refused (entries_order n letter head 0 k) (records_done letter k)
