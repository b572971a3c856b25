-- The three tests of the counts.
use mathlib.Core.Path.{sym, ap, ◌∙◌}
use native.Mathlib.Omega.{arith}
use lib.Count.{ones}
use Rattle.subtrees.proofs.Counted.{count_limit, count_held, count_stacked, count_none}
use Rattle.subtrees.proofs.counts.counted.Goals as goal

pub returns-then-total-gt-MOST : goal.returns-then-total-gt-MOST
returns-then-total-gt-MOST c = let k = c.args in count_limit k.total k.held k.stacked c.if-total-gt-MOST.true

pub returns-then-held-held_after : goal.returns-then-held-held_after
returns-then-held-held_after c =
    let k = c.args in
    count_held k.total k.held k.stacked (λ e. c.if-held-held_after.true (e ∙ sym c.held_after.ensures))

pub returns-then-stacked-chunks_before : goal.returns-then-stacked-chunks_before
returns-then-stacked-chunks_before c =
    let k = c.args in
    count_stacked k.total k.held k.stacked (λ e. omega (arith, e, c.if-stacked-chunks_before.true, ap ones c.chunks_before.ensures))

pub returns : goal.returns
returns c =
    let k = c.args in
    count_none k.total k.held k.stacked c.if-total-gt-MOST.false
    (c.if-held-held_after.false ∙ c.held_after.ensures)
    (omega (arith, c.if-stacked-chunks_before.false, ap ones c.chunks_before.ensures))
