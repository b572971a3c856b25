-- `passage::count::below` meets its contract: of the indexes from number k on, as many are below m as are missing.
use mathlib.Core.Path.{sym, ◌∙◌}
use native.Mathlib.Omega.{arith}
use native.Mathlib.Numerals.{add-one}
use native.Mathlib.Nat.{zero-add}
use Rattle.views.specs.Passage.{under}
use Rattle.views.proofs.Bounds.{under_next, under_here, under_over}
use Rattle.passage.proofs.count.below.Goals as goal

pub loop-k-init : goal.loop-k-init
loop-k-init c = zero-add (under c.args.m c.args.is.now)

pub returns-then-m-i : goal.returns-then-m-i
returns-then-m-i c =
    let a = c.args in
    let l = c.loop-k in
    (sym (under_here a.m a.is.now l.k (omega arith) (omega arith)) ∙ l.invariant, omega arith)

pub loop-k-preserved : goal.loop-k-preserved
loop-k-preserved c =
    let a = c.args in
    let l = c.loop-k in
    let e = under_next a.m a.is.now l.k (omega arith) (omega arith) in
    rw (add-one l.k) (sym e ∙ l.invariant)

pub returns : goal.returns
returns c =
    let a = c.args in
    let l = c.loop-k in
    (omega (arith, l.invariant, under_over a.m a.is.now l.k (omega arith)), omega arith)
