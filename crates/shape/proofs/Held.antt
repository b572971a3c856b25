-- What stands in a buffer as two joined lists stands there as each of them.
use mathlib.Core.Path.{◌∙◌}
use mathlib.Core.List.{List, [], ◌++◌}
use Prim.Native.Nat.{ℕ, ◌+◌}
use native.Mathlib.Nat.{add_assoc}
use native.Mathlib.Omega.{arith}
use lib.ListN.{length, length-append, get_or-append}
use lib.Seq.{get_or-append-add}
use Rattle.shape.specs.Nodes.{Holds}

pub holds_left : (node : ℕ → List ℕ) (s : ℕ) (xs ys : List (List ℕ)) → Holds node s (xs ++ ys) → Holds node s xs
holds_left node s xs ys f k p = f k (rw length-append (omega arith)) ∙ get_or-append xs ys [] k p

pub holds_right : (node : ℕ → List ℕ) (s : ℕ) (xs ys : List (List ℕ)) → Holds node s (xs ++ ys) → Holds node (s + length xs) ys
holds_right node s xs ys f k p =
    rw (add_assoc s (length xs) k) (f (length xs + k) (rw length-append (omega arith)) ∙ get_or-append-add xs ys k [])
