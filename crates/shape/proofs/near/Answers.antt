-- The two blocks of 32 counts that can hold a count of this size: `Narrow` has both.
use native.Mathlib.Omega.{arith}
use Rattle.shape.proofs.Narrow.{near_low, near_next}
use Rattle.shape.proofs.near.Goals as goal

pub returns-then-twice_less_ones-size : goal.returns-then-twice_less_ones-size
returns-then-twice_less_ones-size c = near_next c.args.size c.requires (omega arith)

pub returns : goal.returns
returns c = near_low c.args.size c.requires (omega arith)
