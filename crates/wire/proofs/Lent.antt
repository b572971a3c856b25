-- A part of lent bytes, as a slice of them gives it.
use mathlib.Core.Path.{◌≡◌, sym, ◌∙◌}
use mathlib.Core.List.{List}
use Prim.Native.Nat.{ℕ, ◌+◌, ◌-◌, ◌≤◌}
use native.Mathlib.Omega.{arith}
use denote.Ref.{Bor}
use lib.ListN.{length, take, drop}
use Rattle.wire.specs.Slices.{part}
use Rattle.wire.specs.Lent.{Part, lent, part_of}
use Rattle.wire.proofs.Parts.{part_within}

-- n bytes from a start that lie within
pub slice_part : (start n : ℕ) (bs : List ℕ) → start + n ≤ length bs → take (start + n - start) (drop start bs) ≡ part start n bs
slice_part start n bs h = let k : start + n - start ≡ n = omega arith in rw (k, part_within start n bs)

-- a part by its bytes and its offset
pub lent_part : (whole : Bor (List ℕ)) (start n : ℕ) (bytes : List ℕ) (at : ℕ) → bytes ≡ part start n whole.now
    → at ≡ whole.ref_ptr.1 + start → record { bytes = bytes; place = (whole.ref_ptr.0, at) } ≡ part_of start n whole
lent_part whole start n bytes at e f = rw (e, f)

-- the same bytes at the same place
pub part_only : (whole : Part) (r s : Bor (List ℕ)) → lent r ≡ whole → lent s ≡ whole → lent r ≡ lent s
part_only whole r s e f = e ∙ sym f
