-- A refusal that was met stays; else the record decides, and where its leaf fits its length alone. What was met is answered for last: an answer that
-- forgets it is refused where the record decides.
use mathlib.Core.Path.{◌≡◌, sym, ap, ◌∙◌}
use native.Mathlib.Omega.{arith}
use Rattle.std.proofs.lemmas.Result.{err_from_is_err_and}
use Rattle.refusals.specs.Numbers.{number_of, number_in}
use Rattle.refusals.proofs.Laws.{number_above}
use Rattle.order.proofs.Laws.{first_is, first_none}
use Rattle.batch_foresight.proofs.Foreseen.{or_here, or_later}
use borrow.Author.Rules.{rules}
use Rattle.batch_foresight.proofs.refusal_after.Goals as goal

pub returns-then-not-fits : goal.returns-then-not-fits
returns-then-not-fits c = c.refusal.ensures ∙ sym (or_later _ _ (ap number_in c.in_ok-before.was))

pub returns-then-k-gt-LONGEST_RECORD : goal.returns-then-k-gt-LONGEST_RECORD
returns-then-k-gt-LONGEST_RECORD c =
    let a = c.requires c.if-not-fits.false in
    first_is 3 _ (search rules) ∙ sym (or_later _ _ (ap number_in c.in_ok-before.was))

pub returns : goal.returns
returns c =
    let a = c.requires c.if-not-fits.false in
    first_none _ (search rules) ∙ sym (or_later _ _ (ap number_in c.in_ok-before.was))

pub returns-in_err-before : goal.returns-in_err-before
returns-in_err-before c =
    let p = err_from_is_err_and c.from_residual.result c.from_residual.ensures.1 in
    let n = number_above c.in_err-before.field-0.0 in
    let e : number_in c.args.before ≡ number_of c.in_err-before.field-0.0 = ap number_in c.in_err-before.was in
    rw (p.1, p.2) (sym e ∙ sym (or_here _ _ (λ z. omega arith)))
