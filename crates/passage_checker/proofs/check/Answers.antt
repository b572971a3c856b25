-- `passage_checker::check` meets its contract: the number and how many records there are, of a pass.
use mathlib.Core.Path.{◌≡◌, ap, ◌∙◌}
use borrow.Author.Rules.{rules}
use Rattle.std.specs.Prelude.{Err}
use Rattle.passage_checker.specs.Outcome.{checked}
use Rattle.passage_checker.proofs.Passing.{check_handed}
use Rattle.passage_checker.proofs.check.Goals as goal

pub returns-in_err-f : goal.returns-in_err-f
returns-in_err-f c =
    let e : c.from_residual.result ≡ Err c.in_err-f.field-0.0 = search rules in
    ap checked e ∙ check_handed _ _ _ _ c.in_err-f.ensures

pub returns : goal.returns
returns c = check_handed _ _ _ _ c.in_ok-f.ensures
