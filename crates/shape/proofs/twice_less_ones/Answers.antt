-- Twice n less its ones: there are no more of them than n, so nothing wraps.
use native.Mathlib.Omega.{arith}
use borrow.Author.Rules.{rules}
use Rattle.shape.specs.Sizes.{size_of}
use Rattle.shape.proofs.Sizes.{ones_few}
use Rattle.shape.proofs.twice_less_ones.Goals as goal

pub overflow_cast-result : goal.overflow_cast-result
overflow_cast-result c = omega (arith, ones_few c.args.n)

pub overflow_sub-result : goal.overflow_sub-result
overflow_sub-result c = omega (arith, ones_few c.args.n)

pub returns : goal.returns
unfolding size_of
returns c = search rules
