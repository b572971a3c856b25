-- `keeper::keeper_root` meets its contract: what the log answers, then 6, and the root over the first 32 bytes where it is done.
use mathlib.Core.Path.{ap₂, ◌∙◌}
use native.Mathlib.Omega.{arith}
use borrow.Author.Rules.{rules}
use Rattle.refusals.proofs.Laws.{number_above}
use Rattle.kept.specs.Kept.{filled}
use Rattle.keeper.proofs.Laws.{root_refused_lem, root_done_lem}
use Rattle.keeper.proofs.keeper_root.Goals as goal

pub returns-in-Ok : goal.returns-in-Ok
returns-in-Ok c =
    let a = c.args in
    root_done_lem a.mode.now a.size a.nodes.now a.out.now c.root-answer.ensures c.in-Ok.is c.hand.ensures

pub returns-in-Err : goal.returns-in-Err
returns-in-Err c =
    let a = c.args in
    ap₂ filled (omega (arith, number_above c.in-Err.why)) (search rules)
    ∙ root_refused_lem a.mode.now a.size a.nodes.now a.out.now c.root-answer.ensures c.in-Err.is
