-- The turns are counted by recursion on the height: `Turns` has the way at the height below.
use mathlib.Core.Path.{sym, ap, ◌∙◌}
use Prim.Native.Nat.{◌-◌}
use native.Mathlib.Omega.{arith}
use lib.ListN.{length}
use Rattle.shape.proofs.Ways.{way_most}
use Rattle.letter.proofs.Turns.{turn_none, turn_low, turn_left, turn_length}
use Rattle.letter.proofs.count.+turns.Goals as goal

pub returns-then-h-eq0 : goal.returns-then-h-eq0
returns-then-h-eq0 t c = sym (ap length (turn_none _ _ _ c.if-h-eq0.true))

pub returns-then-n-half : goal.returns-then-n-half
returns-then-n-half t c =
    c.turns.ensures
    ∙ sym (ap length (turn_low _ _ _ c.if-h-eq0.false (omega arith) _ c.power-half.ensures c.if-n-half.true))

pub overflow_add-result : goal.overflow_add-result
overflow_add-result t c = omega (arith, way_most (c.args.h - 1) c.power-half.result c.args.i)

pub returns-then-i-half : goal.returns-then-i-half
returns-then-i-half t c =
    omega (arith, ap length (turn_left _ _ _ c.if-h-eq0.false (omega arith) _ c.power-half.ensures c.if-n-half.false c.if-i-half.true))

pub overflow_add-result-2 : goal.overflow_add-result-2
overflow_add-result-2 t c = omega (arith, way_most (c.args.h - 1) (c.args.n - c.power-half.result) (c.args.i - c.power-half.result))

pub returns : goal.returns
returns t c =
    omega (arith, turn_length _ _ _ c.if-h-eq0.false (omega arith) _ c.power-half.ensures c.if-n-half.false c.if-i-half.false)
