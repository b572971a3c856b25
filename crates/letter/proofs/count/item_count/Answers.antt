-- The turns from the height of n leaves down.
use mathlib.Core.Path.{ap, ◌∙◌}
use Prim.Native.Nat.{ℕ}
use native.Mathlib.Omega.{arith}
use lib.ListN.{length}
use Rattle.shape.specs.Way.{way, way_in}
use Rattle.shape.proofs.Heights.{height_least}
use Rattle.letter.specs.Items.{item_count}
use Rattle.letter.proofs.count.item_count.Goals as goal

pub turns-requires : goal.turns-requires
turns-requires c = omega (arith, height_least c.args.n 64 (omega arith))

pub returns : goal.returns
unfolding item_count way
returns c = c.turns.ensures ∙ ap (λ (h : ℕ). length (way_in h c.args.n c.args.i)) c.height.ensures
