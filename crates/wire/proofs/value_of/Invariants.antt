-- What each turn of the loop of `value_of` keeps.
use mathlib.Core.Path.{◌≡◌}
use Prim.Native.Nat.{◌^◌, ◌<◌}
use lib.ListN.{take}
use Rattle.wire.specs.Numbers.{number}
use Rattle.wire.proofs.value_of.Given as goal

abbrev pub invariant-loop-x : goal.invariant-loop-x
invariant-loop-x l = (l.n ≡ number (take l.x-index l.b)) × (l.n < 256 ^ l.x-index)
