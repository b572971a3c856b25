-- Steps through the part, and what is left goes into the block: `Taking` has what is stored.
use Rattle.parts.proofs.Taking.{takes_on}
use Rattle.parts.proofs.take.take_on.Goals as goal

pub returns : goal.returns
returns c =
    let s = c.args.s in
    let w = c.steps.ensures in
    takes_on s.keyed s.key s.chain s.stack s.stacked s.total c.args.part.now c.keying_of.ensures.words c.keying_of.ensures.flag w.0 w.1
    c.clear.ensures c.block_with.ensures
