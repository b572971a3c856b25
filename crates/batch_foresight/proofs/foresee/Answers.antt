-- One length after the other: `Foreseen` has the loop's beginning, a step and its end.
use mathlib.Core.Path.{◌∙◌}
use native.Mathlib.Omega.{arith}
use Rattle.batch_foresight.proofs.Foreseen.{foresees_begin, foresees_short, foresees_next, foresees_sum, foresees_off}
use Rattle.batch_foresight.proofs.Foreseen.{ample_less, foresight_within}
use Rattle.batch_foresight.proofs.foresee.Goals as goal

pub loop-i-init : goal.loop-i-init
loop-i-init c = foresees_begin _ _ _ _

pub returns-then-left-k : goal.returns-then-left-k
returns-then-left-k c =
    foresees_short _ _ _ _ c.loop-i.invariant (omega arith) (omega arith) ∙ foresight_within _ _ _ _ c.min-base.ensures

-- where all leaves fit, this one does
pub refusal_after-met-requires : goal.refusal_after-met-requires
refusal_after-met-requires c z = ample_less (omega arith) (c.ample-fits.ensures z)

pub loop-i-preserved : goal.loop-i-preserved
loop-i-preserved c = foresees_next _ _ _ _ c.loop-i.invariant (omega arith) (omega arith) c.refusal_after-met.ensures

pub returns-then-left-eq0 : goal.returns-then-left-eq0
returns-then-left-eq0 c =
    foresees_sum _ _ _ _ c.loop-i.invariant (omega arith) (omega arith) ∙ foresight_within _ _ _ _ c.min-base.ensures

pub returns-else-left-eq0 : goal.returns-else-left-eq0
returns-else-left-eq0 c =
    foresees_off _ _ _ _ c.loop-i.invariant (omega arith) (λ z. omega arith) ∙ foresight_within _ _ _ _ c.min-base.ensures
