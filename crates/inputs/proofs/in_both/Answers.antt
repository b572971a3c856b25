-- The shorter list's inputs are those that both have.
use mathlib.Core.Path.{◌≡◌, ap, ◌∙◌}
use mathlib.Core.Bool.{true, false}
use mathlib.Core.Logic.{by_cases}
use Prim.Native.Nat.{ℕ, ◌/◌, min}
use native.Mathlib.Decide.{dec_lt}
use native.Mathlib.Omega.{arith}
use borrow.Author.Tests.{le-leb, lt-leb}
use lib.Dec.{leb}
use Rattle.inputs.specs.Given.{in_both}
use Rattle.inputs.proofs.in_both.Goals as goal

shorter : (m n : ℕ) → min m n / 64 ≡ elim (leb m n) [ true ↦ m / 64 | false ↦ n / 64 ]
shorter m n = by_cases (dec_lt n m) (λ p. rw (lt-leb m n p) (omega arith)) (λ p. rw (le-leb m n (omega arith)) (omega arith))

pub returns : goal.returns
unfolding in_both
returns c = (ap (λ (k : ℕ). k / 64) c.min.ensures ∙ shorter _ _, omega arith)
