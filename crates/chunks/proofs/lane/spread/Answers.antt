-- A loop that stores the words lane after lane fills four lanes with the same words.
use Rattle.std.proofs.Common.{refl, arith}
use Rattle.chunks.specs.Lanes.{laned}
use Rattle.words.proofs.Fill.{fills_none, fills_all}
use Rattle.chunks.proofs.Laned.{fills_lane}
use Rattle.chunks.proofs.lane.spread.Goals as goal

pub loop-k-init : goal.loop-k-init
loop-k-init c = fills_none refl

pub loop-k-preserved : goal.loop-k-preserved
loop-k-preserved c = fills_lane (λ k. c.args.key) refl c.well_formed.0.1.0.1 c.loop-k-test.true c.copy_from_slice.ensures.after c.loop-k.invariant

pub returns : goal.returns
unfolding laned
returns c = fills_all (omega arith) c.loop-k.invariant
