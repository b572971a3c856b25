-- `passage_c::keeper_passage_find` meets its contract: what the finder answers, and what is found where it is done.
use mathlib.Core.Path.{ap, ◌∙◌}
use Prim.Native.Nat.{ℕ}
use Rattle.refusals.proofs.Laws.{number_above}
use Rattle.passage_c.specs.Calls.{find_left}
use Rattle.passage_c.proofs.Compared.{find_refused_lem, find_done_lem}
use Rattle.passage_c.proofs.keeper_passage_find.Goals as goal

pub returns-in-Ok : goal.returns-in-Ok
returns-in-Ok c =
    let a = c.args in
    find_done_lem a.mode.now a.size a.nodes.now a.records.now a.lengths.now a.letter.now a.first.now a.second.now
    a.found.now a.index.now _ _ c.in-Ok.named c.from.ensures c.index.ensures c.in-Ok.ensures

pub returns-in-Err : goal.returns-in-Err
returns-in-Err c =
    let a = c.args in
    let n = c.find.new in
    ap (λ (m : ℕ). find_left m a.found.now a.index.now n.first n.second) c.from-in-Err.ensures
    ∙ find_refused_lem a.mode.now a.size a.nodes.now a.records.now a.lengths.now a.letter.now a.first.now a.second.now
    a.found.now a.index.now _ _ (number_above c.in-Err.why) c.in-Err.ensures
