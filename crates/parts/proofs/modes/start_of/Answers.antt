-- Plain or keyed.
use Rattle.parts.proofs.Begins.{start_plain, start_keyed}
use Rattle.parts.proofs.modes.start_of.Goals as goal

pub returns-then-keyed-eq0 : goal.returns-then-keyed-eq0
returns-then-keyed-eq0 c = start_plain _ _ c.if-keyed-eq0.true

pub returns : goal.returns
returns c = start_keyed _ _ c.if-keyed-eq0.false
