-- Each refusal is the first of its order that applies, and where none does the peaks are folded.
use mathlib.Core.Path.{refl}
use native.Mathlib.Omega.{arith}
use Rattle.std.proofs.lemmas.Result.{err_from_is_err_and}
use Rattle.order.proofs.Laws.{refuses, passes}
use Rattle.shape.proofs.Sizes.{size_le}
use Rattle.evidence_log.specs.Outcome.{root_order, root_over, root_outcome}
use Rattle.shape.proofs.Counting.{counts_leaves, counts_none}
use Rattle.evidence_log.proofs.Done.{root_done_lem}
use borrow.Author.Rules.{rules}
use Rattle.evidence_log.proofs.root.Goals as goal

pub returns-in_err-n : goal.returns-in_err-n
unfolding root_outcome root_over root_order
returns-in_err-n c =
    let k = counts_none c.args.size c.leaf_count.ensures c.in_err-n.was in
    let p = err_from_is_err_and c.from_residual.result c.from_residual.ensures.1 in
    refuses 1 _ _ _ (rw (p.1, p.2) (cc)) (search rules)

-- in each of these `k`: the leaf count, where there is one
pub returns-then-n-eq0 : goal.returns-then-n-eq0
unfolding root_outcome root_over root_order
returns-then-n-eq0 c =
    let k = counts_leaves c.leaf_count.ensures c.in_ok-n.was in
    refuses 10 _ _ _ refl (search rules)

pub overflow_mul-size : goal.overflow_mul-size
overflow_mul-size c =
    let k = counts_leaves c.leaf_count.ensures c.in_ok-n.was in omega (arith, size_le c.in_ok-n.n)

pub returns-then-nodes-size : goal.returns-then-nodes-size
unfolding root_outcome root_over root_order
returns-then-nodes-size c =
    let k = counts_leaves c.leaf_count.ensures c.in_ok-n.was in
    refuses 4 _ _ _ refl (search rules)

pub returns : goal.returns
unfolding root_outcome root_over root_order
returns c =
    let k = counts_leaves c.leaf_count.ensures c.in_ok-n.was in
    passes _ _ _ (root_done_lem c.args.mode.now c.args.nodes.now k (omega arith) c.fold_from.ensures) (search rules)
