-- `letter_checker::judge` meets its contract: under 40 bytes it is 12, and otherwise the check of the three parts.
use mathlib.Core.Path.{◌≡◌, refl, sym, ap, ◌∙◌}
use mathlib.Core.List.{List}
use Prim.Native.Nat.{ℕ, ◌-◌, ◌≤◌}
use native.Mathlib.Omega.{arith}
use borrow.Author.Tests.{lt-ltb, le-ltb}
use lib.ListN.{length, take, drop}
use Rattle.std.specs.Prelude.{Result, Ok, Err}
use Rattle.std.proofs.lemmas.Result.{err_from_is_err_and}
use Rattle.refusals.specs.declared.Refused.{Refused}
use Rattle.refusals.specs.Numbers.{number_in}
use Rattle.wire.specs.Numbers.{number}
use Rattle.wire.specs.Slices.{part}
use Rattle.wire.proofs.Lists.{rest_all}
use Rattle.wire.proofs.Lent.{slice_part}
use Rattle.letter.specs.declared.Fields.{Fields}
use Rattle.letter_checker.specs.Outcome.{CheckOutcome, checked, check_outcome, judged}
use Rattle.letter_checker.proofs.judge.Goals as goal

number_checked : (r : Result Fields Refused) → number_in r ≡ (checked r).number
number_checked (Ok f) = refl
number_checked (Err why) = refl

-- the check of the parts, as slices give them
whole : (digest : List ℕ → List ℕ) (input : List ℕ) (size : ℕ) (r : Result Fields Refused) → 40 ≤ length input → size ≡ number (part 0 8 input)
    → checked r ≡ check_outcome digest size (take (40 - 8) (drop 8 input)) (take (length input - 40) (drop 40 input))
    → number_in r ≡ judged digest input
unfolding judged
whole digest input size r h s e =
    let f : checked r ≡ check_outcome digest (number (part 0 8 input)) (part 8 32 input) (drop 40 input) =
    rw (s, slice_part 8 32 input (omega arith), rest_all 40 input) at e in
    rw (le-ltb (length input) 40 h, judged) (number_checked r ∙ ap (λ (o : CheckOutcome). o.number) f)

pub returns-then-input-lt40 : goal.returns-then-input-lt40
unfolding judged
returns-then-input-lt40 c = rw (lt-ltb (length c.args.input.now) 40 c.if-input-lt40.true, judged)

pub returns-in_err-check : goal.returns-in_err-check
returns-in_err-check c =
    let p = err_from_is_err_and c.from_residual.result c.from_residual.ensures.1 in
    rw (p.1, p.2)
    (sym (ap number_in c.in_err-check.was) ∙ whole _ c.args.input.now _ _ c.if-input-lt40.false c.read8-size.ensures c.check.ensures)

pub returns : goal.returns
returns c = sym (ap number_in c.in_ok-check.was) ∙ whole _ c.args.input.now _ _ c.if-input-lt40.false c.read8-size.ensures c.check.ensures
