-- `letter_checker::judge_keyed` meets its contract: under 32 bytes it is 24, and otherwise the verdict under the key that is there.
use mathlib.Core.Path.{sym}
use Rattle.digest.proofs.UnderKey.{under_short, key_there, under_read}
use Rattle.letter_checker.specs.Outcome.{judged}
use Rattle.letter_checker.proofs.judge_keyed.Goals as goal

pub returns-then-input-lt32 : goal.returns-then-input-lt32
returns-then-input-lt32 c = sym (under_short judged _ c.if-input-lt32.true)

pub returns-in_err-mode : goal.returns-in_err-mode
returns-in_err-mode c = absurd (key_there judged c.args.input.now c.if-input-lt32.false c.keyed.ensures c.in_err-mode.was)

pub returns : goal.returns
returns c =
    under_read judged c.args.input.now c.if-input-lt32.false c.keyed.ensures c.in_ok-mode.was
    c.judge.ensures
