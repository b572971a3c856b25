-- The counts that a total decides.
use Rattle.std.specs.Prelude.{ℕ, ◌-◌, ◌*◌, ◌/◌}
use Rattle.std.specs.Int.Count.{ones}
use Rattle.parts_rule.specs.Subtrees.{finished}

-- bytes that the block holds after t in all: between 1 and 64, and 0 where none came
abbrev pub held_of : ℕ → ℕ
held_of t = t - 64 * ((t - 1) / 64)

-- subtrees on the stack after t bytes: one for each one among the digits of the number of finished chunks
abbrev pub stacked_of : ℕ → ℕ
stacked_of t = ones (finished t)
