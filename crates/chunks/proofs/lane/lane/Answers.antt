-- A loop that stores word after word fills lane k.
use mathlib.Core.Path.{refl}
use Rattle.chunks.specs.Lanes.{lane_of}
use Rattle.words.proofs.Fill.{fills_none, fills_more, fills_all}
use Rattle.chunks.proofs.lane.lane.Goals as goal

pub loop-i-init : goal.loop-i-init
loop-i-init c = fills_none refl

pub loop-i-preserved : goal.loop-i-preserved
loop-i-preserved c = fills_more c.loop-i-test.true refl c.loop-i.invariant

pub returns : goal.returns
unfolding lane_of
returns c = fills_all c.loop-i-test.false c.loop-i.invariant
