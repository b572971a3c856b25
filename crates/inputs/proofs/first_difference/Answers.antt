-- From the last input up, each pair that differs takes the place of what was found below.
use native.Mathlib.Omega.{arith}
use Rattle.inputs.proofs.Lists.{compared_none, compared_more, compared_all}
use Rattle.inputs.proofs.first_difference.Goals as goal

pub loop-k-init : goal.loop-k-init
loop-k-init c = compared_none c.args.ours.now c.args.theirs.now _ c.in_both-k.ensures.1

pub loop-k-preserved : goal.loop-k-preserved
loop-k-preserved c =
    let a = c.args in
    compared_more a.ours.now a.theirs.now c.input_at-a.result c.input_at-b.result c.loop-k.invariant (omega (arith, c.loop-k-test.true))
    c.input_at-a.ensures c.input_at-b.ensures c.inputs_differ.ensures c.higher-first.ensures

pub returns : goal.returns
returns c =
    compared_all c.args.ours.now c.args.theirs.now c.loop-k.invariant (omega (arith, c.loop-k-test.false)) c.in_both-k.ensures.0
