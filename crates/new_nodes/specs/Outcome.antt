-- What is put behind the nodes of a log, for every input and any digest function: a leaf at a position, and the parents above it.
use Rattle.std.specs.Prelude.{List, [], ◌∷◌, Option, None, Some, ℕ, ◌+◌, ◌-◌, ◌*◌, ◌^◌, length}
use Rattle.order.specs.Order.{Refusal, ◌if◌, ◌above◌, ◌under◌, verdict}
use Rattle.wire.specs.Slices.{splice, joined}
use Rattle.shape.specs.Nodes.{climb}
use Rattle.nodes.specs.Nodes.{node_in}

-- how many nodes were put, if any, and the buffer at return
pub record PutLeft : Type 0 where
  pub count : Option ℕ
  pub bytes : List ℕ

abbrev pub put_left : Option ℕ → List ℕ → PutLeft
put_left count bytes = record { count = count; bytes = bytes }

-- no place for a leaf at position s with m parents: more of them than in any log, or than trees stand before it; or the buffer is too short
unfoldable pub put_order : ℕ → ℕ → List ℕ → List Refusal
put_order s m bs = 1 if m above 32 ∷ 1 if s under (2 ^ m - 1) ∷ 1 if length bs under 32 * (s + (1 + m)) ∷ []

-- the leaf and the m parents from byte 32 × s on, every other byte as it was
unfoldable pub put_bytes : (List ℕ → List ℕ) → ℕ → ℕ → List ℕ → List ℕ → List ℕ
put_bytes digest s m rec bs = splice (32 * s) (joined (climb digest (node_in bs) m 0 s (digest rec))) bs

-- so many nodes; none, and no byte changed, where there is no place
unfoldable pub put_outcome : (List ℕ → List ℕ) → ℕ → ℕ → List ℕ → List ℕ → PutLeft
put_outcome digest s m rec bs = verdict (λ _. put_left None bs) (put_order s m bs) (put_left (Some (1 + m)) (put_bytes digest s m rec bs))
