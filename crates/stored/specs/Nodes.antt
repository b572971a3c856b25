-- A stored node as bytes: how they are made, and what stands where in them.
use Rattle.std.specs.Prelude.{List, ◌∷◌, ◌++◌, ℕ, length, get_or}
use Rattle.wire.specs.Numbers.{be, number}
use Rattle.wire.specs.Slices.{part, differ}

-- ---- as it is made

-- inner: byte 00, digest
unfoldable pub inner_bytes : List ℕ → List ℕ
inner_bytes digest = 0 ∷ digest

-- leaf: byte 01, digest, record length (4 bytes, big-endian), record; the digest is worked out from the record
unfoldable pub leaf_bytes : (List ℕ → List ℕ) → List ℕ → List ℕ
leaf_bytes digest rec = 1 ∷ digest rec ++ be 4 (length rec) ++ rec

-- ---- as it is read

-- the flag, 0 for an inner node and 1 for a leaf
abbrev pub flag_in : List ℕ → ℕ
flag_in bs = get_or bs 0 0

-- the digest that it names
unfoldable pub named_in : List ℕ → List ℕ
named_in bs = part 1 32 bs

-- the stated record length of a leaf
unfoldable pub stated_in : List ℕ → ℕ
stated_in bs = number (part 33 4 bs)

-- the record of a leaf, of the stated length
unfoldable pub record_in : List ℕ → List ℕ
record_in bs = part 37 (stated_in bs) bs

-- 0 where the digest that a leaf names is that of its record, else 1
unfoldable pub lies : (List ℕ → List ℕ) → List ℕ → ℕ
lies digest bs = differ (digest (record_in bs)) (named_in bs)
