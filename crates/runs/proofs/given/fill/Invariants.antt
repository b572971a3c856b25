-- What each turn of the loop of `fill` keeps.
use mathlib.Core.Path.{◌≡◌}
use lib.ListN.{take}
use Rattle.runs.specs.Given.{record_of}
use Rattle.runs.proofs.given.fill.Given as goal

abbrev pub invariant-loop-j : goal.invariant-loop-j
invariant-loop-j l = take l.j l.out ≡ record_of l.i l.j
