-- Four chunks go on side by side, block after block: `Four` has the four lists of chaining words at each block.
use Rattle.std.proofs.Common.{rules}
use Rattle.chunks.proofs.lane.Four.{chains4_none, chains4_more, chains4_all}
use Rattle.chunks.proofs.lane.whole4.Goals as goal

pub loop-b-init : goal.loop-b-init
loop-b-init c = chains4_none _ _ _ _ (search rules) c.spread-cv.ensures

pub loop-b-preserved : goal.loop-b-preserved
loop-b-preserved c = chains4_more _ _ _ _ (search rules) c.loop-b-test.true c.compress4-next.ensures c.loop-b.invariant

pub returns : goal.returns
returns c = chains4_all _ _ _ _ (search rules) c.requires.0 c.loop-b-test.false c.compress4.ensures c.loop-b.invariant
