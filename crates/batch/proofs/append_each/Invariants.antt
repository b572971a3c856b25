-- What each turn of the loop of `append_each` keeps.
use Rattle.batch.proofs.Writing.{Appends}
use Rattle.batch.proofs.append_each.Given as goal

abbrev pub invariant-loop-k : goal.invariant-loop-k
invariant-loop-k l = Appends l.mode l.size l.records l.lengths l.initial.nodes l.nodes l.rest l.grown l.k-index
