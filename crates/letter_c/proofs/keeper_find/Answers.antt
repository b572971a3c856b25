-- `letter_c::keeper_find` meets its contract: what the finder answers, and what is found where it is done.
use mathlib.Core.Path.{ap₂, ◌∙◌}
use Prim.Native.Nat.{ℕ}
use native.Mathlib.Omega.{arith}
use Rattle.refusals.proofs.Laws.{number_above}
use Rattle.letter_c.specs.Finder.{find_left}
use Rattle.letter_c.proofs.Finder.{find_refused_lem, find_done_lem}
use Rattle.letter_c.proofs.keeper_find.Goals as goal

pub returns-in-Ok : goal.returns-in-Ok
returns-in-Ok c = find_done_lem _ _ _ _ _ _ _ _ _ _ _ _ c.in-Ok.ensures c.from.ensures

pub returns-in-Err : goal.returns-in-Err
returns-in-Err c =
    let a = c.args in
    let n = c.find.new in
    ap₂ (λ (m f : ℕ). find_left m f n.first n.second) (omega (arith, number_above c.in-Err.why)) (omega arith)
    ∙ find_refused_lem a.mode.now a.size a.nodes.now a.rec.now a.letter.now a.first.now a.second.now a.found.now _ _ _
    c.in-Err.ensures (λ z. omega (arith, number_above c.in-Err.why, z))
