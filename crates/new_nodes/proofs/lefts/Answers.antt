-- The left children are saved one behind the other: `Saving` has what holds after each.
use native.Mathlib.Omega.{arith}
use Rattle.new_nodes.proofs.Saving.{saves_more, span_fits}
use Rattle.new_nodes.proofs.lefts.Goals as goal

pub overflow_sub-p-in-loop-j : goal.overflow_sub-p-in-loop-j
overflow_sub-p-in-loop-j c = omega (arith, span_fits c.loop-j.invariant c.loop-j-test.true c.requires.2)

pub loop-j-preserved : goal.loop-j-preserved
loop-j-preserved c = saves_more c.loop-j.invariant c.loop-j-test.true c.requires.0 c.write_digest.ensures c.node_at-left.ensures
