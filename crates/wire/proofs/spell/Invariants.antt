-- What each turn of the loop of `spell` keeps.
use mathlib.Core.Path.{◌≡◌}
use mathlib.Core.List.{◌++◌}
use lib.ListN.{length, drop}
use Rattle.wire.specs.Numbers.{be}
use Rattle.wire.proofs.spell.Given as goal

abbrev pub invariant-loop-i : goal.invariant-loop-i
invariant-loop-i l = be l.i l.left ++ drop l.i l.d ≡ be (length l.initial.d) l.n
