-- What each turn of the loop of `first_difference` keeps.
use Rattle.inputs.proofs.Lists.{Compared}
use Rattle.inputs.proofs.first_difference.Given as goal

abbrev pub invariant-loop-k : goal.invariant-loop-k
invariant-loop-k l = Compared l.ours l.theirs l.initial.k l.k l.first
