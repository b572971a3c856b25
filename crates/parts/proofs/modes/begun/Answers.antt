-- Plain or keyed.
use Rattle.parts.proofs.Begins.{begun_plain, begun_keyed}
use Rattle.parts.proofs.modes.begun.Goals as goal

pub returns-then-number-ne0 : goal.returns-then-number-ne0
returns-then-number-ne0 c =
    let a = c.args in begun_keyed a.number _ c.load_half-words.result c.if-number-ne0.true
    c.load_half-words.ensures

pub returns-else-number-ne0 : goal.returns-else-number-ne0
returns-else-number-ne0 c = let a = c.args in begun_plain a.number _ c.if-number-ne0.false
