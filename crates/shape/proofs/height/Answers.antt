-- The height by the leading zeros of n - 1.
use mathlib.Core.Path.{sym, ap, ◌∙◌}
use native.Mathlib.Omega.{arith}
use lib.Count.{leading_le}
use Rattle.shape.specs.Sizes.{height_of}
use Rattle.shape.proofs.Heights.{height_zero, height_leading}
use Rattle.shape.proofs.height.Goals as goal

pub overflow_sub-result-else-n-eq0 : goal.overflow_sub-result-else-n-eq0
overflow_sub-result-else-n-eq0 c = leading_le 64 _

pub returns-then-n-eq0 : goal.returns-then-n-eq0
returns-then-n-eq0 c = sym (ap height_of c.if-n-eq0.true ∙ height_zero)

pub returns-else-n-eq0 : goal.returns-else-n-eq0
returns-else-n-eq0 c = height_leading 64 c.args.n (omega arith) (omega arith)
