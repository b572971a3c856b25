-- The nodes of a log as bytes of a lent buffer.
use Rattle.std.specs.Prelude.{◌≡◌, true, false, ◌&&◌, List, map, ℕ, suc, ◌*◌, ◌^◌, ltb, leb, length, take}
use Rattle.wire.specs.Limits.{most_leaves}
use Rattle.wire.specs.Slices.{part, zeros, joined}
use Rattle.shape.specs.Sizes.{size_of, height_of}
use Rattle.shape.specs.Nodes.{nodes}
use Rattle.shape.specs.Positions.{peaks_in, fold}

-- the digest at position p: bytes 32p to 32p + 31
unfoldable pub node_in : List ℕ → ℕ → List ℕ
node_in bs p = part (32 * p) 32 bs

-- the peaks of n leaves, 1 to 2^32, whose nodes begin at position s, at most 2^34, folded as for the root; zeros for other numbers
unfoldable pub fold_from : (List ℕ → List ℕ) → List ℕ → ℕ → ℕ → List ℕ
fold_from digest bs n s =
    elim (ltb 0 n && leb n most_leaves && leb s (2 ^ 34))
    [ true ↦ fold digest (node_in bs) (peaks_in (suc (height_of n)) n s) | false ↦ zeros 32 ]

-- the nodes of a list of records, in position order
unfoldable pub nodes_of : (List ℕ → List ℕ) → List (List ℕ) → List ℕ
nodes_of digest rs = joined (nodes digest (map digest rs))

-- a buffer begins with the nodes of these records; bytes beyond the size mean nothing
abbrev pub Begins : (List ℕ → List ℕ) → List ℕ → List (List ℕ) → Type 0
Begins digest bs rs = take (32 * size_of (length rs)) bs ≡ nodes_of digest rs
