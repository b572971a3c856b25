-- What each turn of the loop of `steps` keeps, and what falls.
use lib.ListN.{length}
use Rattle.parts_rule.specs.Steps.{Went}
use Rattle.parts.proofs.take.steps.Given as goal

abbrev pub invariant-loop-rest : goal.invariant-loop-rest
invariant-loop-rest l =
    let i = l.initial in
    Went l.keying.words l.keying.flag i.at.chain i.stack i.at.stacked i.at.total l.part l.stack l.at.chain l.at.stacked l.at.total l.rest

abbrev pub decreases-loop-rest : goal.decreases-loop-rest
decreases-loop-rest l = length l.rest
