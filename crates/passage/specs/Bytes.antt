-- A passage letter as bytes: how it is put together, and what stands where in it.
use Rattle.std.specs.Prelude.{List, [], ◌∷◌, ◌++◌, map, ℕ, zero, suc, ◌+◌, length, take, drop}
use Rattle.wire.specs.Numbers.{be, number}
use Rattle.wire.specs.Slices.{part, joined, rows_from}

-- ---- as it is put together

-- the records, each behind its index (8) and its length (4), big-endian
unfoldable pub entries : List ℕ → List (List ℕ) → List ℕ
entries [] rs = []
entries (i ∷ is) [] = []
entries (i ∷ is) (r ∷ rs) = be 8 i ++ be 4 (length r) ++ r ++ entries is rs

-- size (8), number of records (2), both big-endian; the records; digests of 32 bytes, no count
unfoldable pub passage_bytes : ℕ → List ℕ → List (List ℕ) → List (List ℕ) → List ℕ
passage_bytes size is rs digests = be 8 size ++ be 2 (length is) ++ entries is rs ++ joined digests

-- ---- as it is taken apart

-- what stands before the records: size and their number
abbrev pub head : ℕ
head = 10

-- what stands before the bytes of a record: its index and its length
abbrev pub frame : ℕ
frame = 12

-- the number of records
unfoldable pub count_in : List ℕ → ℕ
count_in letter = number (part 8 2 letter)

-- the index of the record whose 12 bytes begin at a place
unfoldable pub index_at : List ℕ → ℕ → ℕ
index_at letter at = number (part at 8 letter)

-- its stated length
unfoldable pub stated_at : List ℕ → ℕ → ℕ
stated_at letter at = number (part (at + 8) 4 letter)

-- its bytes, as far as the letter goes
unfoldable pub record_at : List ℕ → ℕ → List ℕ
record_at letter at = take (stated_at letter at) (drop (at + frame) letter)

-- the place behind it
abbrev pub behind_at : List ℕ → ℕ → ℕ
behind_at letter at = at + frame + stated_at letter at

-- where k records begin that stand one behind the other from a place on
unfoldable pub places_from : List ℕ → ℕ → ℕ → List ℕ
places_from letter at zero = []
places_from letter at (suc k) = at ∷ places_from letter (behind_at letter at) k

-- the place behind them
unfoldable pub end_from : List ℕ → ℕ → ℕ → ℕ
end_from letter at zero = at
end_from letter at (suc k) = end_from letter (behind_at letter at) k

-- where its records begin
unfoldable pub places : List ℕ → List ℕ
places letter = places_from letter head (count_in letter)

-- their indexes
unfoldable pub indexes_in : List ℕ → List ℕ
indexes_in letter = map (index_at letter) (places letter)

-- where the bytes of each start, and how many they are
unfoldable pub starts_in : List ℕ → List ℕ
starts_in letter = map (λ (at : ℕ). at + frame) (places letter)

unfoldable pub lengths_in : List ℕ → List ℕ
lengths_in letter = map (stated_at letter) (places letter)

-- the records themselves
unfoldable pub records_in : List ℕ → List (List ℕ)
records_in letter = map (record_at letter) (places letter)

-- the place behind the records, where the digests begin
unfoldable pub end_in : List ℕ → ℕ
end_in letter = end_from letter head (count_in letter)

-- k digests, which follow the records
unfoldable pub digests_in : ℕ → List ℕ → List (List ℕ)
digests_in k letter = rows_from 32 (end_in letter) k letter
