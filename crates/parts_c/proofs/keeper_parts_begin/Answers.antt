-- `parts_c::keeper_parts_begin` meets its contract: what `begin` makes stands behind the pointer.
use mathlib.Core.Path.{ap}
use Rattle.parts_c.specs.Parts.{parts_left, begin_call}
use Rattle.parts_c.proofs.keeper_parts_begin.Goals as goal

pub returns : goal.returns
unfolding begin_call
returns c = ap (parts_left 0) c.begin-s.ensures
