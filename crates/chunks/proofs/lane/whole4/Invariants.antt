-- What each turn of the loop of `whole4` keeps.
use Rattle.chunks.proofs.lane.Four.{Chains4}
use Rattle.chunks.proofs.lane.whole4.Given as goal

abbrev pub invariant-loop-b : goal.invariant-loop-b
invariant-loop-b l = Chains4 l.fn.keying.words l.fn.keying.flag l.n l.bytes l.cv l.start l.b
