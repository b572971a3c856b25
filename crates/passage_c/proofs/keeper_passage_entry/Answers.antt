-- `passage_c::keeper_passage_entry` meets its contract: what the checker answers of record k, and its three results where it is done.
use mathlib.Core.Path.{sym, ap, ap₂, ◌∙◌}
use Prim.Native.Nat.{ℕ}
use native.Mathlib.Omega.{arith}
use Rattle.refusals.proofs.Laws.{number_above}
use Rattle.passage_records.specs.Outcome.{handed, handed_back}
use Rattle.passage_c.specs.Calls.{entry_left}
use Rattle.passage_c.proofs.Checked.{entry_refused_lem, entry_done_lem}
use Rattle.passage_c.proofs.keeper_passage_entry.Goals as goal

pub returns-in-Ok-Some : goal.returns-in-Ok-Some
returns-in-Ok-Some c =
    let a = c.args in
    entry_done_lem a.mode.now a.size a.root.now a.letter.now a.k a.index.now a.record_at.now a.record_len.now
    (sym (ap handed c.in-Ok-Some.is ∙ ap handed_back c.in-Ok-Some.field-0-is) ∙ c.entry.ensures.part)

pub returns-in-Ok-None : goal.returns-in-Ok-None
returns-in-Ok-None c =
    let a = c.args in
    entry_done_lem a.mode.now a.size a.root.now a.letter.now a.k a.index.now a.record_at.now a.record_len.now
    (sym (ap handed c.in-Ok-None.is ∙ ap handed_back c.in-Ok-None.field-0-is) ∙ c.entry.ensures.part)

pub returns-in-Err : goal.returns-in-Err
returns-in-Err c =
    let a = c.args in
    ap₂ (λ (n i : ℕ). entry_left n i a.record_at.now a.record_len.now) (omega (arith, number_above c.in-Err.why)) (omega arith)
    ∙ entry_refused_lem a.mode.now a.size a.root.now a.letter.now a.k a.index.now a.record_at.now a.record_len.now
    (number_above c.in-Err.why) (sym (ap handed c.in-Err.is) ∙ c.entry.ensures.part)
