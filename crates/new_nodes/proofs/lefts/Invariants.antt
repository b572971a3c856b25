-- What each turn of the loop of `lefts` keeps.
use Rattle.new_nodes.proofs.Saving.{Saves}
use Rattle.new_nodes.proofs.lefts.Given as goal

abbrev pub invariant-loop-j : goal.invariant-loop-j
invariant-loop-j l = Saves l.nodes l.size l.m l.saved l.span l.j
