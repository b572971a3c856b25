-- `keeper::keeper_size` meets its contract: the size is put away where there is one.
use mathlib.Core.Path.{◌∙◌, ap₂}
use Rattle.keeper.specs.Calls.{answered}
use Rattle.keeper.proofs.Laws.{answer_put}
use Rattle.keeper.proofs.keeper_size.Goals as goal

pub returns : goal.returns
returns c = ap₂ answered c.put.ensures.number c.put.ensures.value ∙ answer_put _ _ c.size_of.ensures
