-- `passage_records::entry` meets its contract: record k of a pass, or none past the last.
use mathlib.Core.Path.{◌≡◌, refl, ap, ◌∙◌}
use native.Mathlib.Omega.{arith}
use borrow.Author.Rules.{rules}
use Rattle.std.specs.Prelude.{Err}
use Rattle.refusals.proofs.Laws.{number_above}
use Rattle.digest.specs.Digest.{digest_in}
use Rattle.passage_checker.proofs.Passing.{pass_refused}
use Rattle.passage_records.specs.Outcome.{entry_refused, entry_done, handed, entry_outcome}
use Rattle.passage_records.proofs.Handing.{entry_count, entry_none, entry_inside, entry_some}
use Rattle.passage_records.proofs.entry.Goals as goal

pub returns-in_err-f-clause-part : goal.returns-in_err-f-clause-part
unfolding entry_outcome
returns-in_err-f-clause-part c =
    let a = c.args in
    let why = c.in_err-f.field-0.0 in
    let e : c.from_residual.result ≡ Err why = search rules in
    ap handed e
    ∙ pass_refused (digest_in a.mode.now) a.size a.root.now a.letter.now c.in_err-f.ensures entry_refused (entry_done a.letter.now a.k)
    (number_above why)

pub returns-then-f-k-clause-part : goal.returns-then-f-k-clause-part
returns-then-f-k-clause-part c =
    let a = c.args in
    entry_none (digest_in a.mode.now) a.size a.root.now a.letter.now c.in_ok-f.ensures a.k c.if-f-k.true

pub returns-then-f-k-clause-there : goal.returns-then-f-k-clause-there
returns-then-f-k-clause-there c =
    let a = c.args in
    omega (arith, c.if-f-k.true, entry_count (digest_in a.mode.now) a.size a.root.now a.letter.now c.in_ok-f.ensures)

-- it is there
pub offset_bounds-places-j : goal.offset_bounds-places-j
offset_bounds-places-j c =
    let a = c.args in
    let w = entry_inside (digest_in a.mode.now) a.size a.root.now a.letter.now c.in_ok-f.ensures a.k c.if-f-k.false in
    record { fits = omega (arith, w) }

pub bounds-places-j : goal.bounds-places-j
bounds-places-j c =
    let a = c.args in
    (entry_inside (digest_in a.mode.now) a.size a.root.now a.letter.now c.in_ok-f.ensures a.k c.if-f-k.false).0

pub offset_bounds-indexes-j : goal.offset_bounds-indexes-j
offset_bounds-indexes-j c =
    let a = c.args in
    let w = entry_inside (digest_in a.mode.now) a.size a.root.now a.letter.now c.in_ok-f.ensures a.k c.if-f-k.false in
    record { fits = omega (arith, w) }

pub bounds-indexes-j : goal.bounds-indexes-j
bounds-indexes-j c =
    let a = c.args in
    (entry_inside (digest_in a.mode.now) a.size a.root.now a.letter.now c.in_ok-f.ensures a.k c.if-f-k.false).0

pub overflow_add-result : goal.overflow_add-result
overflow_add-result c =
    let a = c.args in
    let w = entry_inside (digest_in a.mode.now) a.size a.root.now a.letter.now c.in_ok-f.ensures a.k c.if-f-k.false in
    search rules

pub returns-clause-part : goal.returns-clause-part
returns-clause-part c =
    let a = c.args in
    entry_some (digest_in a.mode.now) a.size a.root.now a.letter.now c.in_ok-f.ensures a.k c.if-f-k.false refl refl c.stated_at.ensures

pub returns-clause-there : goal.returns-clause-there
returns-clause-there c =
    let a = c.args in
    omega (arith, c.if-f-k.false, entry_count (digest_in a.mode.now) a.size a.root.now a.letter.now c.in_ok-f.ensures)
