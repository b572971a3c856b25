-- `passage_checker::judge` meets its contract: under 40 bytes it is 12, and otherwise the check of the three parts.
use mathlib.Core.Path.{◌≡◌, ap, ◌∙◌}
use mathlib.Core.List.{List}
use Prim.Native.Nat.{ℕ, ◌-◌, ◌≤◌, ◌<◌}
use native.Mathlib.Omega.{arith}
use borrow.Author.Rules.{rules}
use borrow.Author.Tests.{lt-ltb, le-ltb}
use lib.ListN.{length, take, drop}
use Rattle.std.specs.Prelude.{Err}
use Rattle.refusals.specs.Numbers.{number_in}
use Rattle.wire.specs.Numbers.{number}
use Rattle.wire.specs.Slices.{part}
use Rattle.wire.proofs.Lists.{rest_all}
use Rattle.wire.proofs.Lent.{slice_part}
use Rattle.passage_checker.specs.Outcome.{CheckOutcome, check_outcome, judged}
use Rattle.passage_checker.proofs.judge.Goals as goal

short : (digest : List ℕ → List ℕ) (input : List ℕ) → length input < 40 → 12 ≡ judged digest input
unfolding judged
short digest input h = rw (lt-ltb (length input) 40 h, judged)

-- the check of the parts, as slices give them
whole : (digest : List ℕ → List ℕ) (input : List ℕ) (size : ℕ) {o : CheckOutcome} → 40 ≤ length input → size ≡ number (part 0 8 input)
    → o ≡ check_outcome digest size (take (40 - 8) (drop 8 input)) (take (length input - 40) (drop 40 input))
    → o.number ≡ judged digest input
unfolding judged
whole digest input size {o} h s e =
    let f : o ≡ check_outcome digest (number (part 0 8 input)) (part 8 32 input) (drop 40 input) =
    rw (s, slice_part 8 32 input (omega arith), rest_all 40 input) at e in
    rw (le-ltb (length input) 40 h, judged) (ap (λ (o : CheckOutcome). o.number) f)

pub returns-then-input-lt40 : goal.returns-then-input-lt40
returns-then-input-lt40 c = short _ c.args.input.now c.if-input-lt40.true

pub returns-in_err-check : goal.returns-in_err-check
returns-in_err-check c =
    let e : c.from_residual.result ≡ Err c.in_err-check.field-0.0 = search rules in
    ap number_in e ∙ whole _ c.args.input.now _ c.if-input-lt40.false c.read8-size.ensures c.in_err-check.ensures

pub returns : goal.returns
returns c = whole _ c.args.input.now _ c.if-input-lt40.false c.read8-size.ensures c.in_ok-check.ensures
