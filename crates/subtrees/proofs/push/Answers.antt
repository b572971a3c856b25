-- Five tests of the place; then the subtrees that do not remain are folded with the value, which goes behind those that do.
use native.Mathlib.Omega.{arith}
use Rattle.subtrees.proofs.Laws.{push_other, push_full, push_none, push_most, push_apart, push_done}
use Rattle.subtrees.proofs.push.Goals as goal

pub returns-then-stack-ne240 : goal.returns-then-stack-ne240
returns-then-stack-ne240 c =
    let a = c.args in
    push_other a.keying.words a.keying.flag a.stacked a.chunks a.v a.stack.now c.if-stack-ne240.true

pub returns-then-stacked-gt30 : goal.returns-then-stacked-gt30
returns-then-stacked-gt30 c =
    let a = c.args in
    push_full a.keying.words a.keying.flag a.stacked a.chunks a.v a.stack.now c.if-stacked-gt30.true

pub returns-then-count-eq0 : goal.returns-then-count-eq0
returns-then-count-eq0 c =
    let a = c.args in
    push_none a.keying.words a.keying.flag a.stacked a.chunks a.v a.stack.now c.if-count-eq0.true

pub returns-then-count-gt30 : goal.returns-then-count-gt30
returns-then-count-gt30 c =
    let a = c.args in
    push_most a.keying.words a.keying.flag a.stacked a.chunks a.v a.stack.now c.if-count-gt30.true

pub returns-then-stacked-count : goal.returns-then-stacked-count
returns-then-stacked-count c =
    let a = c.args in
    push_apart a.keying.words a.keying.flag a.stacked a.chunks a.v a.stack.now c.if-stacked-count.true

pub returns : goal.returns
returns c =
    let a = c.args in
    push_done a.keying.words a.keying.flag a.stacked a.chunks a.v a.stack.now
    (record { some = omega (arith, c.if-count-eq0.false); fits = c.if-count-gt30.false; under = c.if-stacked-count.false; most = c.if-stacked-gt30.false })
    c.if-stack-ne240.false c.fold-w.ensures
    c.store.ensures
