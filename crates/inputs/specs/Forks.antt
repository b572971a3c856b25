-- What stands on top of a fork of the folded tree.
use Rattle.std.specs.Prelude.{true, false, List, ℕ, ◌+◌, ◌-◌, ◌*◌, eqb, Option, None, Some}
use Rattle.nodes.specs.Nodes.{node_in}
use Rattle.digest.specs.declared.Digest.{Digest}

-- the bytes of a digest, where there is one
abbrev pub there : Option Digest → Option (List ℕ)
there None = None
there (Some d) = Some d.bytes

-- the node on top of a fork of `half` leaves and `rest`, whose right side begins at position mid, within a peak; none above the peaks
unfoldable pub top_in : List ℕ → ℕ → ℕ → ℕ → Option (List ℕ)
top_in bs half rest mid = elim (eqb rest half) [ true ↦ Some (node_in bs (mid + (2 * half - 1))) | false ↦ None ]
