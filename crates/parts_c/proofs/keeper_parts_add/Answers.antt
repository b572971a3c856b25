-- The state that `add` answers stands behind the pointer, and its number is returned.
use Rattle.std.proofs.Common.{ap₂, ◌∙◌}
use Rattle.parts_c.specs.Parts.{parts_left}
use Rattle.parts_c.proofs.Parts.{part_put}
use Rattle.parts_c.proofs.keeper_parts_add.Goals as goal

pub returns : goal.returns
returns c = ap₂ parts_left c.put.ensures.number c.put.ensures.value ∙ part_put _ _ c.add.result c.add.ensures
