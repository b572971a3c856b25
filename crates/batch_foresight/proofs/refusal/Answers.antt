-- Each refusal is the first of the order by numbers that applies.
use mathlib.Core.Path.{◌∙◌}
use native.Mathlib.Omega.{arith}
use Rattle.std.proofs.lemmas.Result.{err_from_is_err_and}
use Rattle.order.proofs.Laws.{first_is, first_none}
use Rattle.shape.proofs.Sizes.{size_le}
use Rattle.shape.proofs.Counting.{size_known, size_none}
use borrow.Author.Rules.{rules}
use Rattle.batch_foresight.proofs.refusal.Goals as goal

pub returns-in_err-grown : goal.returns-in_err-grown
returns-in_err-grown c =
    let h = size_none c.args.m c.size_of.ensures c.in_err-grown.was in
    let p = err_from_is_err_and c.from_residual.result c.from_residual.ensures.1 in
    rw (p.1, p.2) (h.1 ∙ first_is 2 _ (search rules))

-- in each of these `k`: the size, where there is one
pub returns-then-k-gt-LONGEST_RECORD : goal.returns-then-k-gt-LONGEST_RECORD
returns-then-k-gt-LONGEST_RECORD c =
    let k = size_known c.args.m c.size_of.ensures c.in_ok-grown.was in
    first_is 3 _ (search rules)

pub overflow_mul-grown : goal.overflow_mul-grown
overflow_mul-grown c = omega (arith, size_le c.args.m, size_known c.args.m c.size_of.ensures c.in_ok-grown.was)

pub returns-then-room-grown : goal.returns-then-room-grown
returns-then-room-grown c =
    let k = size_known c.args.m c.size_of.ensures c.in_ok-grown.was in
    first_is 4 _ (search rules)

pub returns : goal.returns
returns c =
    let k = size_known c.args.m c.size_of.ensures c.in_ok-grown.was in
    first_none _ (search rules)
