-- A part of lent bytes: what it holds, and where it lies.
use Rattle.std.specs.Prelude.{List, ℕ, ◌+◌}
use Rattle.std.specs.Borrow.{Bor}
use Rattle.wire.specs.Slices.{part}

-- its bytes, and the place where they lie (a block, and an offset in it)
pub record Part : Type 0 where
  pub bytes : List ℕ
  pub place : ℕ × ℕ

-- the part that a reference lends
abbrev pub lent : Bor (List ℕ) → Part
lent r = record { bytes = r.now; place = r.ref_ptr }

-- k bytes from place at of what a reference lends
abbrev pub part_of : ℕ → ℕ → Bor (List ℕ) → Part
part_of at k r = record { bytes = part at k r.now; place = (r.ref_ptr.0, r.ref_ptr.1 + at) }
