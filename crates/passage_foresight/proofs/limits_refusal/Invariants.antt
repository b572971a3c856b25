-- What each turn of the loop of `limits_refusal` keeps.
use Rattle.passage_foresight.proofs.Limits.{Limits}
use Rattle.passage_foresight.proofs.limits_refusal.Given as goal

abbrev pub invariant-loop-k : goal.invariant-loop-k
invariant-loop-k l = Limits l.n l.indexes l.lengths l.k
