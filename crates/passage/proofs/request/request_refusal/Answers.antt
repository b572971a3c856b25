-- `passage::request::request_refusal` meets its contract: the number is that of the indexes which are left, each to stand above the last.
use mathlib.Core.Path.{sym, ◌∙◌}
use native.Mathlib.Omega.{arith}
use native.Mathlib.Numerals.{add-one}
use Rattle.passage.proofs.Rising.{request_first, request_none, request_many, rising_next, rising_stop, rising_end}
use Rattle.passage.proofs.request.request_refusal.Goals as goal

pub returns-in_default : goal.returns-in_default
returns-in_default c = request_none c.args.is.now c.in_default.ensures.cases

pub returns-then-is-gt-MOST_RECORDS : goal.returns-then-is-gt-MOST_RECORDS
returns-then-is-gt-MOST_RECORDS c = request_many c.args.is.now (omega arith) (omega arith)

pub loop-i-init : goal.loop-i-init
loop-i-init c = request_first c.args.is.now c.in-Some.ensures.cases.0 c.if-is-gt-MOST_RECORDS.false

pub returns-then-i-last : goal.returns-then-i-last
returns-then-i-last c =
    let l = c.loop-i in
    rising_stop _ l.last l.i-index (omega arith) (omega arith) ∙ sym l.invariant

pub loop-i-preserved : goal.loop-i-preserved
loop-i-preserved c =
    let l = c.loop-i in
    rw (add-one l.i-index) (l.invariant ∙ rising_next _ l.last l.i-index (omega arith) (omega arith))

pub returns : goal.returns
returns c =
    let l = c.loop-i in
    rising_end _ l.last l.i-index (omega arith) ∙ sym l.invariant
