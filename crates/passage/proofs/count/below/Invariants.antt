-- What each turn of the loop of `below` keeps.
use mathlib.Core.Path.{◌≡◌}
use Prim.Native.Nat.{◌+◌}
use lib.ListN.{drop}
use Rattle.views.specs.Passage.{under}
use Rattle.passage.proofs.count.below.Given as goal

abbrev pub invariant-loop-k : goal.invariant-loop-k
invariant-loop-k l = l.k + under l.m (drop l.k l.is) ≡ under l.m l.is
