-- Either buffer under 64 refuses; then the two inputs are put, or nothing is, and the answer says which.
use mathlib.Core.Path.{refl, ap}
use native.Mathlib.Omega.{arith}
use borrow.Author.Rules.{rules}
use Rattle.order.proofs.Laws.{refuses, passes}
use Rattle.wire.specs.Slices.{bit}
use Rattle.difference.specs.Outcome.{room_order}
use Rattle.difference.proofs.Settled.{put_fits, done_pair, done_records, done_same}
use Rattle.difference.proofs.settle.settle.Goals as goal

pub returns-then-first-lt64 : goal.returns-then-first-lt64
unfolding room_order
returns-then-first-lt64 c = refuses 6 _ _ _ refl (λ a b. omega (arith, c.then-first-lt64.either))

pub returns-in-Some : goal.returns-in-Some
unfolding room_order
returns-in-Some c =
    let a = c.args in
    let u = c.in-Some.pair in
    passes _ _ _ (done_pair a.highest u _ a.first.now a.second.now c.in-Some.is (put_fits _ _ c.put.ensures (omega arith)) (put_fits _ _ c.put-in-Some.ensures (omega arith))) (search rules)

pub returns-in-None : goal.returns-in-None
unfolding room_order
returns-in-None c =
    passes _ _ _ (done_records c.args.highest _ _ _ c.in-None.is (λ z. omega (arith, ap bit c.if-apart.true, z))) (search rules)

pub returns-in-None-2 : goal.returns-in-None-2
unfolding room_order
returns-in-None-2 c = passes _ _ _ (done_same c.args.highest _ _ _ c.in-None-2.is (ap bit c.if-apart.false)) (search rules)
