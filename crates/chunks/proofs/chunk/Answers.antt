-- The loop takes the whole blocks before the last one, and the last block is padded: `Chain` has the chaining words at each block.
use Rattle.std.proofs.Common.{arith}
use Rattle.chunks.proofs.Chain.{chains_none, chains_more, chains_all}
use Rattle.chunks.proofs.chunk.Goals as goal

pub loop-i-init : goal.loop-i-init
loop-i-init c = chains_none _ _ _ _

pub loop-i-preserved : goal.loop-i-preserved
loop-i-preserved c = chains_more _ _ _ _ c.compress-next.ensures c.load.ensures c.loop-i.invariant

pub returns : goal.returns
returns c = chains_all _ _ _ _ c.args.root _ (omega arith) (omega arith) c.compress.ensures c.load-2.ensures c.loop-i.invariant
