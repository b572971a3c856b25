-- Two given lists compared, and the answer settled.
use mathlib.Core.Path.{ap₂, ◌∙◌}
use Prim.Native.Nat.{ℕ}
use Rattle.shape.specs.Difference.{Diff}
use Rattle.difference.specs.Outcome.{settled, compare_outcome}
use Rattle.difference.proofs.compare.Goals as goal

pub returns : goal.returns
unfolding compare_outcome
returns c =
    let a = c.args in
    c.settle.ensures
    ∙ ap₂ (λ (d : Diff) (m : ℕ). settled d m a.first.now a.second.now) c.first_difference-highest.ensures c.differ-apart.ensures
