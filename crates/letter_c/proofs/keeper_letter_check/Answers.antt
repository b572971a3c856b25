-- `letter_c::keeper_letter_check` meets its contract: what the checker answers, and its three results where it is done.
use mathlib.Core.Path.{ap₂, ◌∙◌}
use Prim.Native.Nat.{ℕ}
use native.Mathlib.Omega.{arith}
use Rattle.refusals.proofs.Laws.{number_above}
use Rattle.letter_c.specs.Letters.{check_left}
use Rattle.letter_c.proofs.Letters.{check_refused_lem, check_done_lem}
use Rattle.letter_c.proofs.keeper_letter_check.Goals as goal

pub returns-in-Ok : goal.returns-in-Ok
returns-in-Ok c = check_done_lem _ _ _ _ _ _ _ _ _ _ c.in-Ok.ensures

pub returns-in-Err : goal.returns-in-Err
returns-in-Err c =
    let a = c.args in
    ap₂ (λ (n i : ℕ). check_left n i a.record_at.now a.record_len.now) (omega (arith, number_above c.in-Err.why)) (omega arith)
    ∙ check_refused_lem a.mode.now a.size a.root.now a.letter.now a.index.now a.record_at.now a.record_len.now _
    c.in-Err.ensures (λ z. omega (arith, number_above c.in-Err.why, z))
