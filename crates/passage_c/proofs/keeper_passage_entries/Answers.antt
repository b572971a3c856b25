-- `passage_c::keeper_passage_entries` meets its contract: what the checker answers of all records, and their number where it is done.
use mathlib.Core.Path.{ap₂, ◌∙◌}
use Prim.Native.Nat.{ℕ}
use Rattle.passage_c.specs.Calls.{entries_left}
use Rattle.passage_c.proofs.Checked.{entries_put}
use Rattle.passage_c.proofs.keeper_passage_entries.Goals as goal

pub returns : goal.returns
returns c =
    let a = c.args in
    let n = c.entries-answer.new in
    ap₂ (λ (m v : ℕ). entries_left m v n.indexes n.starts n.lengths) c.put.ensures.number c.put.ensures.value
    ∙ entries_put a.mode.now a.size a.root.now a.letter.now a.indexes.now a.starts.now a.lengths.now a.count.now
    _ _ _ c.entries-answer.result c.entries-answer.ensures
