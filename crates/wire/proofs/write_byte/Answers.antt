-- `wire::write_byte` meets its contract: the store is a splice of one byte, and past the end nothing is stored.
use mathlib.Core.Path.{sym, ◌∙◌}
use mathlib.Core.List.{[], ◌∷◌}
use native.Mathlib.Omega.{arith}
use Rattle.wire.proofs.Splices.{splice_byte, written_fits, written_short}
use Rattle.wire.proofs.write_byte.Goals as goal

pub returns-then-at-d : goal.returns-then-at-d
returns-then-at-d c =
    let a = c.args in
    splice_byte a.at a.b a.d.now c.if-at-d.true ∙ sym (written_fits a.at (a.b ∷ []) a.d.now (omega arith))

pub returns-else-at-d : goal.returns-else-at-d
returns-else-at-d c =
    let a = c.args in
    sym (written_short a.at (a.b ∷ []) a.d.now (omega arith))
