-- Below the limit the position, from it on 5.
use mathlib.Core.Path.{sym, ap, ◌∙◌}
use native.Mathlib.Omega.{arith}
use Rattle.shape.specs.Answers.{done}
use Rattle.shape.proofs.Sizes.{position_answer_lem, position_refused}
use Rattle.shape.proofs.leaf_position.Goals as goal

pub returns-then-i-lt-MOST_LEAVES : goal.returns-then-i-lt-MOST_LEAVES
returns-then-i-lt-MOST_LEAVES c = ap done c.twice_less_ones.ensures ∙ sym (position_answer_lem c.args.i (omega arith))

pub returns-else-i-lt-MOST_LEAVES : goal.returns-else-i-lt-MOST_LEAVES
returns-else-i-lt-MOST_LEAVES c = sym (position_refused c.args.i (omega arith))
