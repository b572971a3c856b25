-- What each turn of the loop of `leaf_count` keeps.
use Rattle.shape.proofs.Narrow.{Narrowed}
use Rattle.shape.proofs.leaf_count.Given as goal

abbrev pub invariant-loop-k : goal.invariant-loop-k
invariant-loop-k l = Narrowed l.size l.k l.rest l.n
