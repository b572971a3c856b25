-- What each turn of the loop of `fold` keeps.
use Rattle.parts_rule.proofs.Places.{Folds}
use Rattle.subtrees.proofs.fold.Given as goal

abbrev pub invariant-loop-at : goal.invariant-loop-at
invariant-loop-at l = Folds l.keying.words l.keying.flag l.stack l.from l.top l.fn.v l.at l.w
