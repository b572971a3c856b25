-- What writing a stored node returns, and what it leaves in the output buffer.
use Rattle.std.specs.Prelude.{List, [], ◌∷◌, ℕ, ◌+◌, length}
use Rattle.wire.specs.Limits.{longest_record}
use Rattle.wire.specs.Writers.{WriteOutcome, write_refused, write_done}
use Rattle.order.specs.Order.{Refusal, ◌if◌, ◌under◌, ◌above◌, verdict}
use Rattle.stored.specs.Nodes.{inner_bytes, leaf_bytes}

-- stored leaf, written: 3, 6
abbrev pub leaf_order : List ℕ → List ℕ → List Refusal
leaf_order rec out = 3 if length rec above longest_record ∷ 6 if length out under (37 + length rec) ∷ []

-- inner: 6
abbrev pub inner_order : List ℕ → List Refusal
inner_order out = 6 if length out under 33 ∷ []

-- writing the leaf of a record, for any digest function
unfoldable pub leaf_outcome : (List ℕ → List ℕ) → List ℕ → List ℕ → WriteOutcome
leaf_outcome digest rec out = verdict (write_refused out) (leaf_order rec out) (write_done (leaf_bytes digest rec) out)

-- writing the inner node of a digest
unfoldable pub inner_outcome : List ℕ → List ℕ → WriteOutcome
inner_outcome digest out = verdict (write_refused out) (inner_order out) (write_done (inner_bytes digest) out)
