-- Three tests; then the first subtree is the left side of the last parent.
use mathlib.Core.Path.{◌∙◌}
use native.Mathlib.Omega.{arith}
use Rattle.parts_rule.proofs.Places.{rooted}
use Rattle.subtrees.proofs.Laws.{root_other, root_none, root_full, root_done_lem}
use Rattle.subtrees.proofs.root.Goals as goal

pub returns-then-stack-ne240 : goal.returns-then-stack-ne240
returns-then-stack-ne240 c =
    let a = c.args in
    root_other a.keying.words a.keying.flag a.stacked a.v a.stack.now c.if-stack-ne240.true

pub returns-then-stacked-eq0 : goal.returns-then-stacked-eq0
returns-then-stacked-eq0 c =
    let a = c.args in
    root_none a.keying.words a.keying.flag a.stacked a.v a.stack.now c.if-stacked-eq0.true

pub returns-then-stacked-gt30 : goal.returns-then-stacked-gt30
returns-then-stacked-gt30 c =
    let a = c.args in
    root_full a.keying.words a.keying.flag a.stacked a.v a.stack.now c.if-stacked-gt30.true

pub returns : goal.returns
returns c =
    let a = c.args in
    let some = c.if-stacked-eq0.false in
    rooted a.keying.words a.keying.flag a.stack.now a.stacked a.v (omega (arith, some)) c.fold-w.ensures
    c.subtree.ensures c.parent.ensures
    ∙ root_done_lem a.keying.words a.keying.flag a.stacked a.v a.stack.now c.if-stack-ne240.false (omega (arith, some))
    c.if-stacked-gt30.false
