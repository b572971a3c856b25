-- What the code's own steps are called: the left children that are read, the nodes that are written.
use Rattle.std.specs.Prelude.{◌≡◌, List, [], ◌∷◌, ◌++◌, ℕ, zero, suc, ◌+◌, ◌*◌, ◌<◌}
use Rattle.digest.specs.Digest.{digest_in}
use Rattle.wire.specs.Slices.{part}
use Rattle.shape.specs.Nodes.{left_of}
use Rattle.nodes.specs.Nodes.{node_in}

-- digest j of joined ones
abbrev pub left_in : List ℕ → ℕ → List ℕ
left_in saved j = part (32 * j) 32 saved

-- the left children of m parents above a leaf at position s, lowest first
pub record Lefts (bs : List ℕ) (s m : ℕ) (saved : List ℕ) : Type 0 where
  pub each : (j : ℕ) → j < m → left_in saved j ≡ node_in bs (left_of j (s + j))

-- the node at height j above x in a mode, its left children given by height
unfoldable pub up : List ℕ → (ℕ → List ℕ) → ℕ → List ℕ → List ℕ
up mode left zero x = x
up mode left (suc j) x = digest_in mode (left j ++ up mode left j x)

-- x and the m nodes above it
unfoldable pub ups : List ℕ → (ℕ → List ℕ) → ℕ → List ℕ → List (List ℕ)
ups mode left zero x = x ∷ []
ups mode left (suc m) x = ups mode left m x ++ (up mode left (suc m) x ∷ [])
