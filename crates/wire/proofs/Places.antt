-- Numbers at a place: one law over the width for reading what stands there, and one for writing it.
use mathlib.Core.Path.{◌≡◌}
use mathlib.Core.List.{List, ◌++◌}
use Prim.Native.Nat.{ℕ, ◌+◌, ◌^◌, ◌≤◌, ◌<◌}
use lib.ListN.{length}
use Rattle.wire.specs.Numbers.{be, number, Bytes}
use Rattle.wire.specs.Slices.{part, written}
use Rattle.wire.proofs.Numbers.{be_length, number_be, be_number}
use Rattle.wire.proofs.Parts.{part_length, part_bytes, part_field}
use Rattle.wire.proofs.Splices.{part_splice, splice_part, written_fits}

-- a number that stands between other bytes is read
pub number_field : (at k n : ℕ) (p q : List ℕ) → length p ≡ at → n < 256 ^ k → number (part at k (p ++ be k n ++ q)) ≡ n
number_field at k n p q e h = rw (part_field at k p (be k n) q e (be_length k n)) (number_be k n h)

-- what is read at a place is written as the bytes there
pub be_part : (at k : ℕ) (bs : List ℕ) → Bytes bs → be k (number (part at k bs)) ≡ part at k bs
be_part at k bs h = rw part_length at (be_number (part at k bs) (part_bytes at k bs h))

-- what was written at a place is read there
pub read_written_lem : (at k n : ℕ) (d : List ℕ) → n < 256 ^ k → at + k ≤ length d
    → number (part at k (written at (be k n) d)) ≡ n
read_written_lem at k n d h l =
    let m : at + length (be k n) ≤ length d = rw be_length l in
    rw (written_fits at (be k n) d m, part_splice at k (be k n) d (be_length k n) l) (number_be k n h)

-- what was read at a place, written there again, changes nothing
pub written_read : (at k : ℕ) (d : List ℕ) → Bytes d → at + k ≤ length d → written at (be k (number (part at k d))) d ≡ d
written_read at k d h l =
    let m : at + length (part at k d) ≤ length d = rw part_length l in
    rw (be_part at k d h, written_fits at (part at k d) d m) (splice_part at k d l)
