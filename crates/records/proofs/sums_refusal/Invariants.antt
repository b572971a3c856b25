-- What each turn of the loop of `sums_refusal` keeps.
use Rattle.records.proofs.Left.{Sums}
use Rattle.records.proofs.sums_refusal.Given as goal

abbrev pub invariant-loop-k : goal.invariant-loop-k
invariant-loop-k l = Sums l.count l.bytes l.lengths l.left l.k-index
