-- Within the limit the size, above it 2.
use mathlib.Core.Path.{sym, ap, ◌∙◌}
use native.Mathlib.Omega.{arith}
use Rattle.shape.specs.Answers.{done}
use Rattle.shape.proofs.Sizes.{size_answer_lem, size_refused}
use Rattle.shape.proofs.size_of.Goals as goal

pub returns-then-n-le-MOST_LEAVES : goal.returns-then-n-le-MOST_LEAVES
returns-then-n-le-MOST_LEAVES c = ap done c.twice_less_ones.ensures ∙ sym (size_answer_lem c.args.n (omega arith))

pub returns-else-n-le-MOST_LEAVES : goal.returns-else-n-le-MOST_LEAVES
returns-else-n-le-MOST_LEAVES c = sym (size_refused c.args.n (omega arith))
