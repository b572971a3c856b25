-- The subtrees are folded from the last down: `Places` has what one more adds.
use native.Mathlib.Omega.{arith}
use Rattle.parts_rule.proofs.Places.{folds_none, folds_more, folds_all}
use Rattle.subtrees.proofs.fold.Goals as goal

pub loop-at-init : goal.loop-at-init
loop-at-init c = folds_none _ _ _ _ _ _ (omega arith)

pub loop-at-preserved : goal.loop-at-preserved
loop-at-preserved c = folds_more _ _ (omega (arith, c.loop-at-test.true)) c.subtree.ensures c.parent-next.ensures c.loop-at.invariant

pub returns : goal.returns
returns c = folds_all _ _ c.loop-at-test.false c.loop-at.invariant
