-- One record after the other: `Limits` has the loop's beginning, a step and its end.
use native.Mathlib.Omega.{arith}
use Rattle.passage_foresight.proofs.Limits.{limits_begin, limits_index, limits_length, limits_next, limits_end}
use Rattle.passage_foresight.proofs.limits_refusal.Goals as goal

pub loop-k-init : goal.loop-k-init
loop-k-init c = let a = c.args in limits_begin a.n a.indexes.now a.lengths.now c.requires

pub returns-then-n-index : goal.returns-then-n-index
returns-then-n-index c =
    let a = c.args in
    limits_index a.n a.indexes.now a.lengths.now c.loop-k.invariant (omega arith) (omega arith)

pub returns-then-lengths-k-gt-LONGEST_RECORD : goal.returns-then-lengths-k-gt-LONGEST_RECORD
returns-then-lengths-k-gt-LONGEST_RECORD c =
    let a = c.args in
    limits_length a.n a.indexes.now a.lengths.now c.loop-k.invariant (omega arith) (omega arith)
    (omega arith)

pub loop-k-preserved : goal.loop-k-preserved
loop-k-preserved c =
    let a = c.args in
    limits_next a.n a.indexes.now a.lengths.now c.loop-k.invariant (omega arith) (omega arith)
    (omega arith)

pub returns : goal.returns
returns c =
    let a = c.args in
    limits_end a.n a.indexes.now a.lengths.now c.loop-k.invariant (omega arith)
