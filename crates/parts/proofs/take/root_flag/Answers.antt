-- On the last block where there is one chunk alone.
use mathlib.Core.Path.{refl}
use native.Mathlib.Omega.{arith}
use Rattle.parts.proofs.take.root_flag.Goals as goal

pub returns-then-stacked-eq0 : goal.returns-then-stacked-eq0
returns-then-stacked-eq0 c = (λ e. refl, λ some. absurd (omega (arith, c.if-stacked-eq0.true)), omega arith)

pub returns-else-stacked-eq0 : goal.returns-else-stacked-eq0
returns-else-stacked-eq0 c = (λ e. absurd (c.if-stacked-eq0.false e), λ some. omega arith, omega arith)
