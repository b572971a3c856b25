-- As a finder of one record settles it, and for "records" with the index.
use mathlib.Core.Path.{◌≡◌}
use borrow.Author.Rules.{rules}
use Rattle.std.specs.Prelude.{Err}
use Rattle.inputs.specs.Inputs.{told}
use Rattle.findings.specs.Outcome.{apart_at}
use Rattle.findings.proofs.Settled.{as_refused, as_pair, as_records}
use Rattle.findings.proofs.settle.Goals as goal

pub returns-in_err-finding : goal.returns-in_err-finding
returns-in_err-finding c =
    let a = c.args in
    let why = c.in_err-finding.field-0.0 in
    let e : c.from_residual.result ≡ Err why = search rules in
    rw e (as_refused (told a.highest) _ (apart_at a.apart) a.first.now a.second.now _ _ why c.in_err-finding.ensures)

pub returns-in-Pair-default : goal.returns-in-Pair-default
returns-in-Pair-default c =
    let a = c.args in
    as_pair (told a.highest) _ (apart_at a.apart) a.first.now a.second.now _ _ _ c.in-Pair-default.is-0 c.in_ok-finding.ensures

pub returns-in_default-Some : goal.returns-in_default-Some
returns-in_default-Some c =
    let a = c.args in
    rw c.in_default-Some.is-1 (as_records (told a.highest) _ _ a.first.now a.second.now _ _ _ (search rules) c.in_ok-finding.ensures)

pub returns-in_default-None : goal.returns-in_default-None
returns-in_default-None c =
    let a = c.args in
    rw c.in_default-None.is-1 (as_records (told a.highest) _ _ a.first.now a.second.now _ _ _ (search rules) c.in_ok-finding.ensures)
