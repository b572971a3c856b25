-- What each turn of the loop of `differ` keeps.
use mathlib.Core.Logic.{◌≢◌}
use mathlib.Core.Path.{◌≡◌}
use mathlib.Core.List.{List}
use mathlib.Core.Bool.{Bool, true, false}
use Prim.Native.Nat.{ℕ}
use lib.ListN.{take}
use Rattle.wire.proofs.differ.Given as goal

-- what the first i bytes told
pub record Told (a b : List ℕ) (found : Bool) (i : ℕ) : Type 0 where
  pub same : found ≡ false → take i a ≡ take i b
  pub other : found ≡ true → a ≢ b

abbrev pub invariant-loop-i : goal.invariant-loop-i
invariant-loop-i l = Told l.a l.b l.found l.i
