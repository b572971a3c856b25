-- The first difference of two given lists of inputs.
use Rattle.std.specs.Prelude.{true, false, List, ℕ, ◌/◌, leb, length}
use Rattle.wire.specs.Slices.{rows_from}
use Rattle.shape.specs.Difference.{Diff, difference}

-- as many inputs, 64 bytes each, as both of two runs have
unfoldable pub in_both : List ℕ → List ℕ → ℕ
in_both ours theirs = elim (leb (length ours) (length theirs)) [ true ↦ length ours / 64 | false ↦ length theirs / 64 ]

-- the first difference of two given lists of inputs
unfoldable pub given_difference : List ℕ → List ℕ → Diff
given_difference ours theirs =
    let k = in_both ours theirs in
    difference (rows_from 64 0 k ours) (rows_from 64 0 k theirs)
