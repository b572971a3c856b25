-- `passage_records::entries` meets its contract: a refusal changes no list, and where there is room every record of a pass is listed.
use mathlib.Core.Path.{◌≡◌, ap, ◌∙◌}
use native.Mathlib.Omega.{arith}
use borrow.Author.Rules.{rules}
use Rattle.std.specs.Prelude.{Err}
use Rattle.refusals.proofs.Laws.{number_above}
use Rattle.digest.specs.Digest.{digest_in}
use Rattle.passage_records.specs.Outcome.{listed}
use Rattle.passage_records.proofs.Rooms.{pass_refuses, indexes_front, places_front, indexes_room, places_room, room_refuses, listable, all_listed}
use Rattle.passage_records.proofs.entries.Goals as goal
use Rattle.passage_records.proofs.entries.Goals.{then-indexes-count-via-then-indexes-count, then-indexes-count-via-else-indexes-count+then-starts-count, then-indexes-count-via-else-indexes-count+else-starts-count+then-lengths-count}

pub returns-in_err-f : goal.returns-in_err-f
returns-in_err-f c =
    let a = c.args in
    let why = c.in_err-f.field-0.0 in
    let e : c.from_residual.result ≡ Err why = search rules in
    ap (λ r. listed r a.indexes.now a.starts.now a.lengths.now) e
    ∙ pass_refuses (digest_in a.mode.now) a.size a.root.now a.letter.now a.indexes.now a.starts.now a.lengths.now
    (number_above why) c.in_err-f.ensures

pub returns-then-indexes-count : goal.returns-then-indexes-count
returns-then-indexes-count c =
    let a = c.args in
    room_refuses (digest_in a.mode.now) a.size a.root.now a.letter.now a.indexes.now a.starts.now a.lengths.now c.in_ok-f.ensures
    (λ x y z. elim c.then-indexes-count.branch [
      | then-indexes-count-via-then-indexes-count w ↦ omega arith
      | then-indexes-count-via-else-indexes-count+then-starts-count w ↦ omega arith
      | then-indexes-count-via-else-indexes-count+else-starts-count+then-lengths-count w ↦ omega arith
    ])

-- there is room in the arrays
pub slice_bounds-given-end : goal.slice_bounds-given-end
slice_bounds-given-end c =
    let a = c.args in
    indexes_room (digest_in a.mode.now) a.size a.root.now a.letter.now a.indexes.now a.starts.now a.lengths.now c.in_ok-f.ensures

pub slice_bounds-list-end : goal.slice_bounds-list-end
slice_bounds-list-end c =
    let a = c.args in
    indexes_front (digest_in a.mode.now) a.size a.root.now a.letter.now a.indexes.now a.starts.now a.lengths.now c.in_ok-f.ensures

pub slice_bounds-places-end : goal.slice_bounds-places-end
slice_bounds-places-end c =
    let a = c.args in
    places_room (digest_in a.mode.now) a.size a.root.now a.letter.now a.indexes.now a.starts.now a.lengths.now c.in_ok-f.ensures

pub slice_bounds-list-end-2 : goal.slice_bounds-list-end-2
slice_bounds-list-end-2 c =
    let a = c.args in
    places_front (digest_in a.mode.now) a.size a.root.now a.letter.now a.indexes.now a.starts.now a.lengths.now c.in_ok-f.ensures

-- and in the three lists
pub list-requires : goal.list-requires
list-requires c =
    let a = c.args in
    listable (digest_in a.mode.now) a.size a.root.now a.letter.now a.indexes.now a.starts.now a.lengths.now
    c.in_ok-f.ensures (omega arith) (omega arith) (omega arith)

pub returns : goal.returns
returns c =
    let a = c.args in
    all_listed (digest_in a.mode.now) a.size a.root.now a.letter.now a.indexes.now a.starts.now a.lengths.now
    c.in_ok-f.ensures (omega arith) (omega arith) (omega arith) c.list.ensures
