-- `passage_c::keeper_passage_check` meets its contract: what the checker answers, and the number of records where it is done.
use mathlib.Core.Path.{ap₂, ◌∙◌}
use Rattle.passage_c.specs.Calls.{check_left}
use Rattle.passage_c.proofs.Checked.{check_put}
use Rattle.passage_c.proofs.keeper_passage_check.Goals as goal

pub returns : goal.returns
returns c =
    let a = c.args in
    ap₂ check_left c.put.ensures.number c.put.ensures.value
    ∙ check_put a.mode.now a.size a.root.now a.letter.now a.count.now c.check.result c.check.ensures
