-- What the calls that hand back the records of a passage letter return, for every input and any digest function.
use Rattle.std.specs.Prelude.{List, [], ◌∷◌, ◌++◌, ℕ, ◌≤◌, ◌<◌, Option, Some, None, Result, Ok, Err, length, get_or}
use Rattle.std.specs.Borrow.{Bor}
use Rattle.refusals.specs.declared.Refused.{Refused}
use Rattle.refusals.specs.Numbers.{outcome_by}
use Rattle.order.specs.Order.{Refusal, ◌if◌, ◌under◌, verdict}
use Rattle.wire.specs.Slices.{splice}
use Rattle.wire.specs.Lent.{Part, part_of}
use Rattle.passage.specs.Bytes.{count_in, indexes_in, starts_in, lengths_in}
use Rattle.passage_checker.specs.Outcome.{check_order}
use Rattle.passage_records.specs.declared.place.Handed.{Handed}

-- ---- record k

-- the number, the index, and the record as a part of the letter: where it starts in it, and its length
pub record EntryOutcome : Type 0 where
  pub number : ℕ
  pub index : ℕ
  pub start : ℕ
  pub length : ℕ

-- a refusal: its number, index 0, and the empty part at the start
abbrev pub entry_refused : ℕ → EntryOutcome
entry_refused number = record { number = number; index = 0; start = 0; length = 0 }

-- a record, or none
abbrev pub handed_back : Option Handed → EntryOutcome
handed_back (Some h) = record { number = 0; index = h.index; start = h.start; length = h.length }
handed_back None = record { number = 0; index = 0; start = 0; length = 0 }

-- the outcome by the answer, the record or why there is none
abbrev pub handed : Result (Option Handed) Refused → EntryOutcome
handed r = outcome_by entry_refused handed_back r

-- where it is done, there is a record k just where there are more than k
abbrev pub There : ℕ → ℕ → Result (Option Handed) Refused → Type 0
There count k (Ok (Some h)) = k < count
There count k (Ok None) = count ≤ k
There count k (Err why) = Unit

-- done: index and part of record k, counted from 0; index 0 and the empty part at the start past the last
abbrev pub entry_done : List ℕ → ℕ → EntryOutcome
entry_done letter k =
    record { number = 0; index = get_or (indexes_in letter) k 0; start = get_or (starts_in letter) k 0; length = get_or (lengths_in letter) k 0 }

-- ---- all records

-- the number, how many records there are, and the three lists at return: every index, start and length
pub record EntriesOutcome : Type 0 where
  pub number : ℕ
  pub count : ℕ
  pub indexes : List ℕ
  pub starts : List ℕ
  pub lengths : List ℕ

-- a refusal: its number alone, and no lent place changes
abbrev pub list_refused : List ℕ → List ℕ → List ℕ → ℕ → EntriesOutcome
list_refused indexes starts lengths number =
    record { number = number; count = 0; indexes = indexes; starts = starts; lengths = lengths }

-- the outcome by the answer, how many records there are or why it is refused, and the three lists
abbrev pub listed : Result ℕ Refused → List ℕ → List ℕ → List ℕ → EntriesOutcome
listed r indexes starts lengths =
    outcome_by (list_refused indexes starts lengths)
    (λ (count : ℕ). record { number = 0; count = count; indexes = indexes; starts = starts; lengths = lengths }) r

-- done: those of the records fill the first places, and no other place changes
abbrev pub list_done : List ℕ → List ℕ → List ℕ → List ℕ → EntriesOutcome
list_done letter indexes starts lengths =
    record {
      number = 0;
      count = count_in letter;
      indexes = splice 0 (indexes_in letter) indexes;
      starts = splice 0 (starts_in letter) starts;
      lengths = splice 0 (lengths_in letter) lengths;
    }

-- one of the three has fewer places than there are records
unfoldable pub room_order : List ℕ → List ℕ → List ℕ → List ℕ → List Refusal
room_order letter indexes starts lengths =
    6 if length indexes under count_in letter ∷ 6 if length starts under count_in letter ∷ 6 if length lengths under count_in letter ∷ []

-- ---- the outcomes

module _ (digest : List ℕ → List ℕ) where
  -- the checker's numbers, then record k
  unfoldable pub entry_outcome : ℕ → List ℕ → List ℕ → ℕ → EntryOutcome
  entry_outcome size root letter k = verdict entry_refused (check_order digest size root letter) (entry_done letter k)

  -- record k as a part of the letter
  abbrev pub record_part : ℕ → List ℕ → Bor (List ℕ) → ℕ → Part
  record_part size root r k = let o = entry_outcome size root r.now k in part_of o.start o.length r

  -- the checker's numbers, then 6, then all records
  unfoldable pub entries_outcome : ℕ → List ℕ → List ℕ → List ℕ → List ℕ → List ℕ → EntriesOutcome
  entries_outcome size root letter indexes starts lengths =
      verdict (list_refused indexes starts lengths) (check_order digest size root letter ++ room_order letter indexes starts lengths)
      (list_done letter indexes starts lengths)
