-- The root is worked out by recursion on the height: `Turns` has the way at the height below, `Sides` what a turn adds.
use Prim.Native.Nat.{◌-◌}
use native.Mathlib.Omega.{arith}
use Rattle.digest.specs.Digest.{digest_in}
use Rattle.shape.proofs.Ways.{way_most}
use Rattle.letter.proofs.Turns.{turn_none, turn_low, turn_left, turn_right_lem, turn_past}
use Rattle.letter.proofs.Sides.{side_none, side_left, side_right, side_past}
use Rattle.letter_root.proofs.+work.Goals as goal

pub returns-then-h-eq0 : goal.returns-then-h-eq0
returns-then-h-eq0 t c = side_none (digest_in c.args.mode.now) _ _ _ _ (turn_none _ _ _ c.if-h-eq0.true)

pub returns-then-n-half : goal.returns-then-n-half
returns-then-n-half t c = rw (turn_low _ _ _ c.if-h-eq0.false (omega arith) _ c.power-half.ensures c.if-n-half.true) c.work.ensures

-- to the left
pub overflow_add-from : goal.overflow_add-from
overflow_add-from t c = omega (arith, way_most (c.args.h - 1) c.power-half.result c.args.i)

pub item-right-requires : goal.item-right-requires
item-right-requires t c = omega (arith, way_most (c.args.h - 1) c.power-half.result c.args.i)

pub parent-requires : goal.parent-requires
parent-requires t c = omega (arith, way_most (c.args.h - 1) c.power-half.result c.args.i)

pub returns-then-i-half : goal.returns-then-i-half
returns-then-i-half t c =
    side_left (digest_in c.args.mode.now) _ _ _
    (turn_left _ _ _ c.if-h-eq0.false (omega arith) _ c.power-half.ensures c.if-n-half.false c.if-i-half.true)
    c.work-low.ensures c.item-right.ensures c.parent.ensures

-- to the right, within a peak
pub overflow_add-from-then-rest-half : goal.overflow_add-from-then-rest-half
overflow_add-from-then-rest-half t c =
    omega (arith, way_most (c.args.h - 1) (c.args.n - c.power-half.result) (c.args.i - c.power-half.result))

pub item-left-requires : goal.item-left-requires
item-left-requires t c = omega (arith, way_most (c.args.h - 1) (c.args.n - c.power-half.result) (c.args.i - c.power-half.result))

pub parent-requires-then-rest-half : goal.parent-requires-then-rest-half
parent-requires-then-rest-half t c =
    omega (arith, way_most (c.args.h - 1) (c.args.n - c.power-half.result) (c.args.i - c.power-half.result))

pub returns-then-rest-half : goal.returns-then-rest-half
returns-then-rest-half t c =
    side_right (digest_in c.args.mode.now) _ _ _
    (turn_right_lem _ _ _ c.if-h-eq0.false (omega arith) _ c.power-half.ensures c.if-n-half.false c.if-i-half.false c.if-rest-half.true)
    c.work-low-then-rest-half.ensures c.item-left.ensures c.parent-then-rest-half.ensures

-- past a peak
pub parent-requires-2 : goal.parent-requires-2
parent-requires-2 t c = omega (arith, way_most (c.args.h - 1) (c.args.n - c.power-half.result) (c.args.i - c.power-half.result))

pub returns : goal.returns
returns t c =
    side_past (digest_in c.args.mode.now) _ _ _
    (turn_past _ _ _ c.if-h-eq0.false (omega arith) _ c.power-half.ensures c.if-n-half.false c.if-i-half.false c.if-rest-half.false)
    c.work-low-2.ensures c.item-peak.ensures c.parent-2.ensures
