-- What each turn of the loop of `chunk` keeps.
use Rattle.chunks.proofs.Chain.{Chains}
use Rattle.chunks.proofs.chunk.Given as goal

abbrev pub invariant-loop-i : goal.invariant-loop-i
invariant-loop-i l = Chains l.fn.keying.words l.fn.keying.flag l.n l.bytes l.cv l.start l.i
