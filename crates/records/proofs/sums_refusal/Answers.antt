-- `records::sums_refusal` meets its contract: one length after the other is taken from what is left.
use native.Mathlib.Omega.{arith}
use Rattle.records.proofs.Left.{sums_count, sums_short, sums_next, sums_done, sums_left}
use Rattle.records.proofs.sums_refusal.Goals as goal

pub returns-then-lengths-count : goal.returns-then-lengths-count
returns-then-lengths-count c = sums_count _ _ _ (λ e. omega arith)

pub returns-then-left-k : goal.returns-then-left-k
returns-then-left-k c = sums_short _ _ _ c.loop-k.invariant (omega arith) (omega arith)

pub loop-k-preserved : goal.loop-k-preserved
loop-k-preserved c = sums_next _ _ _ c.loop-k.invariant (omega arith) (omega arith)

pub returns-then-left-eq0 : goal.returns-then-left-eq0
returns-then-left-eq0 c = sums_done _ _ _ c.loop-k.invariant (omega arith) (omega arith) (omega arith)

pub returns-else-left-eq0 : goal.returns-else-left-eq0
returns-else-left-eq0 c = sums_left _ _ _ c.loop-k.invariant (omega arith) (λ z. omega arith)
