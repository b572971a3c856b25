-- `passage_fields::take_records` meets its contract: `Taking` has the loop's beginning, a record refused or taken, and its end.
use mathlib.Core.Path.{◌≡◌, refl, ap, ◌∙◌}
use native.Mathlib.Omega.{arith}
use borrow.Author.Rules.{rules}
use Rattle.std.specs.Prelude.{Err}
use Rattle.passage_fields.specs.Fields.{taken_apart}
use Rattle.refusals.proofs.Laws.{number_above}
use Rattle.passage_fields.proofs.Taking.{taking_none, taking_stop, taken, taking_more, taking_end}
use Rattle.passage_fields.proofs.take_records.Goals as goal

pub loop-k-init : goal.loop-k-init
loop-k-init c = let a = c.args in taking_none a.n a.letter.now a.count c.requires.headed

pub returns-in_err-refusal_at : goal.returns-in_err-refusal_at
returns-in_err-refusal_at c =
    let a = c.args in
    let why = c.in_err-refusal_at.field-0.0 in
    let e : c.from_residual.result ≡ Err why = search rules in
    ap taken_apart e
    ∙ taking_stop a.n a.letter.now a.count c.loop-k.invariant (omega arith) c.in_err-refusal_at.ensures (λ z. omega (arith, number_above why)) refl

pub overflow_add-floor : goal.overflow_add-floor
overflow_add-floor c = omega (arith, (taken c.args.n c.args.letter.now c.args.count c.loop-k.invariant (omega arith) c.in_ok-refusal_at.ensures refl).below)

pub overflow_add-at-in-loop-k : goal.overflow_add-at-in-loop-k
overflow_add-at-in-loop-k c = omega (arith, (taken c.args.n c.args.letter.now c.args.count c.loop-k.invariant (omega arith) c.in_ok-refusal_at.ensures refl).whole)

pub loop-k-preserved : goal.loop-k-preserved
loop-k-preserved c =
    let a = c.args in
    taking_more a.n a.letter.now a.count c.loop-k.invariant (omega arith) c.in_ok-refusal_at.ensures refl
    c.requires.few c.index_at-index.ensures (omega (arith, c.stated_at.ensures)) (omega (arith, c.index_at-index.ensures))

pub returns : goal.returns
returns c =
    let a = c.args in
    taking_end a.n a.letter.now a.count c.loop-k.invariant (omega arith)
