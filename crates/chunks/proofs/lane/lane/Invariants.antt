-- What each turn of the loop of `lane` keeps.
use Prim.Native.Nat.{◌+◌, ◌*◌, ◌%◌}
use lib.ListN.{get_or}
use Rattle.words.proofs.Fill.{Fills}
use Rattle.chunks.proofs.lane.lane.Given as goal

abbrev pub invariant-loop-i : goal.invariant-loop-i
invariant-loop-i l = Fills (λ j. get_or l.v (8 * (l.k % 4) + j) 0) 8 l.out l.i
