-- A record before that differs stays the first.
use mathlib.Core.Bool.{Bool}
use mathlib.Core.Path.{◌≡◌, refl, sym, ap, ◌∙◌}
use Prim.Native.Nat.{ℕ}
use Rattle.std.specs.Prelude.{Option, Some, None}
use Rattle.std.specs.Option.{option_or}
use Rattle.wire.specs.Slices.{bit}
use Rattle.findings.specs.Outcome.{from, nowhere, apart_of, apart_at}
use Rattle.passage_finder.specs.Steps.{soonest}
use Rattle.passage_finder.proofs.own.sooner.Goals as goal

or_from : (f : Option ℕ) (i : ℕ) → apart_at (option_or f (Some i)) ≡ soonest (apart_at f) (from i)
or_from None i = refl
or_from (Some j) i = refl

or_nowhere : (f : Option ℕ) → apart_at f ≡ soonest (apart_at f) nowhere
or_nowhere None = refl
or_nowhere (Some j) = refl

pub returns-then-apart : goal.returns-then-apart
returns-then-apart c =
    let a = c.args in
    ap apart_at c.or.ensures ∙ or_from a.first a.i ∙ ap (λ (b : Bool). soonest (apart_at a.first) (apart_of (bit b) a.i)) (sym c.if-apart.true)

pub returns-else-apart : goal.returns-else-apart
returns-else-apart c =
    let a = c.args in
    or_nowhere a.first ∙ ap (λ (b : Bool). soonest (apart_at a.first) (apart_of (bit b) a.i)) (sym c.if-apart.false)
