-- `keeper::keeper_leaf_position` meets its contract: the position is put away where there is one.
use mathlib.Core.Path.{◌∙◌, ap₂}
use Rattle.keeper.specs.Calls.{answered}
use Rattle.keeper.proofs.Laws.{answer_put}
use Rattle.keeper.proofs.keeper_leaf_position.Goals as goal

pub returns : goal.returns
returns c = ap₂ answered c.put.ensures.number c.put.ensures.value ∙ answer_put _ _ c.leaf_position.ensures
