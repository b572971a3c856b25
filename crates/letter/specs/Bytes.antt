-- A letter as bytes: how it is put together, and what stands where in it.
use Rattle.std.specs.Prelude.{List, ◌++◌, ℕ, ◌+◌, length}
use Rattle.wire.specs.Numbers.{be, number}
use Rattle.wire.specs.Slices.{part, joined, rows_from}

-- ---- as it is put together

-- size (8), index (8), record length (4), all big-endian; record; items of 32 bytes, no count
unfoldable pub letter_bytes : ℕ → ℕ → List ℕ → List (List ℕ) → List ℕ
letter_bytes size index rec items = be 8 size ++ be 8 index ++ be 4 (length rec) ++ rec ++ joined items

-- ---- as it is taken apart

-- what stands before the record: size, index and record length
abbrev pub head : ℕ
head = 20

-- the size that it names
unfoldable pub size_in : List ℕ → ℕ
size_in letter = number (part 0 8 letter)

-- the index
unfoldable pub index_in : List ℕ → ℕ
index_in letter = number (part 8 8 letter)

-- the stated record length
unfoldable pub stated_in : List ℕ → ℕ
stated_in letter = number (part 16 4 letter)

-- the record
unfoldable pub record_in : List ℕ → List ℕ
record_in letter = part head (stated_in letter) letter

-- its k items, which follow the record
unfoldable pub items_in : ℕ → List ℕ → List (List ℕ)
items_in k letter = rows_from 32 (head + stated_in letter) k letter
