-- Records that are made, letters that state other numbers, and a front part of lent bytes.
use Rattle.std.specs.Prelude.{List, [], ◌∷◌, ◌++◌, ℕ, zero, suc, ◌+◌, ◌*◌, ◌%◌, get_or, take}
use Rattle.std.specs.Borrow.{Bor}
use Rattle.wire.specs.Lent.{Part}
use Rattle.wire.specs.Numbers.{be}
use Rattle.wire.specs.Slices.{written}

-- the length of record k of a log: five lengths, over and over
abbrev pub length_of : ℕ → ℕ
length_of k = get_or (0 ∷ 1 ∷ 31 ∷ 200 ∷ 16384 ∷ []) (k % 5) 0

-- record i, of n bytes: byte j is (7i + j) mod 251
unfoldable pub record_of : ℕ → ℕ → List ℕ
record_of i zero = []
record_of i (suc n) = record_of i n ++ ((7 * i + n) % 251 ∷ [])

-- a letter with a record length, then an index, then a size written over its own, each as eight bytes: the length ends at byte 20
abbrev pub restated : ℕ → ℕ → ℕ → List ℕ → List ℕ
restated size index stated letter = written 0 (be 8 size) (written 8 (be 8 index) (written 12 (be 8 stated) letter))

-- the first n bytes of what a reference lends, at the same place
abbrev pub front_of : ℕ → Bor (List ℕ) → Part
front_of n r = record { bytes = take n r.now; place = r.ref_ptr }
