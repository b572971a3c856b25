-- The other arm of a let-else that takes a leaf: what was read is an inner node, or nothing.
use mathlib.Core.Path.{◌≡◌, refl}
use mathlib.Core.List.{List}
use Prim.Native.Nat.{ℕ}
use Rattle.stored.specs.declared.Node.{Node}
use Rattle.stored.specs.declared.Node.TheVariants.{Inner, Leaf}
use Rattle.stored.specs.Read.{inner_read, values_of}

pub else_done : (node : Node) (digest : List ℕ) → ((n : ℕ) → node ≡ Leaf n → ⊥) → values_of node digest ≡ inner_read digest
else_done Inner digest other = refl
else_done (Leaf n) digest other = absurd (other n refl)
