-- The loop narrows the count down, height by height: `Narrow` has its beginning, a step and its end.
use mathlib.Core.Path.{◌≡◌, sym, ap, ◌∙◌}
use Prim.Native.Nat.{ℕ, ◌+◌, ◌-◌, ◌*◌, ◌^◌, ◌≤◌, ◌<◌}
use native.Mathlib.Omega.{arith}
use Rattle.shape.proofs.Powers.{power_small}
use Rattle.shape.proofs.Narrow.{narrow_begin, narrow_take, narrow_skip, narrow_found, narrow_missing, narrow_room, count_above}
use Rattle.shape.proofs.leaf_count.Goals as goal

-- in the loop the span is the next lower power of two, and what is known of a step
module _ (c : goal.After-power-span) where
  span_is : c.power-span.result ≡ 2 ^ (c.loop-k.k - 1)
  span_is = c.power-span.ensures ∙ power_small 64 _ (omega arith)

  room : (0 < c.power-span.result) × (c.loop-k.n + 2 * c.power-span.result ≤ 2 ^ 33)
  room = narrow_room _ _ _ _ _ c.loop-k-test.true span_is c.loop-k.invariant

pub returns-then-size-gt-MOST_NODES : goal.returns-then-size-gt-MOST_NODES
returns-then-size-gt-MOST_NODES c = sym (count_above c.args.size (omega arith))

pub loop-k-init : goal.loop-k-init
loop-k-init c =
    narrow_begin c.args.size (omega arith) c.near-n.result _ c.near-n.ensures
    (ap (λ (x : ℕ). c.args.size - x) c.twice_less_ones.ensures)

pub overflow_mul-nodes : goal.overflow_mul-nodes
overflow_mul-nodes c = omega (arith, room c)

pub overflow_sub-nodes : goal.overflow_sub-nodes
overflow_sub-nodes c = omega (arith, room c)

pub loop-k-preserved-then-nodes-rest : goal.loop-k-preserved-then-nodes-rest
loop-k-preserved-then-nodes-rest c =
    narrow_take _ _ _ _ _ c.loop-k-test.true (span_is c.before) c.loop-k.invariant c.if-nodes-rest.true

pub loop-k-preserved : goal.loop-k-preserved
loop-k-preserved c =
    narrow_skip _ _ _ _ _ c.loop-k-test.true (span_is c.before) c.loop-k.invariant c.if-nodes-rest.false

pub returns-then-rest-eq0 : goal.returns-then-rest-eq0
returns-then-rest-eq0 c =
    sym (narrow_found _ _ _ _ c.loop-k-test.false c.loop-k.invariant c.if-rest-eq0.true (omega arith))

pub returns-else-rest-eq0 : goal.returns-else-rest-eq0
returns-else-rest-eq0 c = sym (narrow_missing _ _ _ _ c.loop-k-test.false c.loop-k.invariant c.if-rest-eq0.false)
