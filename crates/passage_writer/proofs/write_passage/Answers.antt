-- Each refusal is the first of its order that applies, and where none does the fields, one after the other, fill the first bytes.
use mathlib.Core.Path.{◌≡◌, refl, sym, ap, ◌∙◌}
use Prim.Native.Nat.{◌*◌, ◌≤◌}
use native.Mathlib.Omega.{arith}
use borrow.Author.Rules.{rules}
use lib.ListN.{length}
use Rattle.std.specs.Prelude.{Err}
use Rattle.refusals.proofs.Laws.{number_above}
use Rattle.wire.specs.Writers.{wrote, write_refused}
use Rattle.order.specs.Order.{◌under◌}
use Rattle.digest.specs.Digest.{digest_in}
use Rattle.shape.proofs.Counting.{counts_leaves, counts_none}
use Rattle.nodes.specs.Nodes.{node_in}
use Rattle.passage.proofs.Digests.{count_few}
use Rattle.passage_foresight.proofs.Parts.{foreseen_known}
use Rattle.passage_writer.proofs.Fills.{our_length, passage_done}
use Rattle.passage_writer.proofs.Answers.{by_size, by_inner, by_room, by_none}
use Rattle.passage_writer.proofs.write_passage.Goals as goal

pub returns-in_err-n : goal.returns-in_err-n
returns-in_err-n c =
    let a = c.args in
    let e : c.from_residual.result ≡ Err c.in_err-n.field-0.0 = search rules in
    let k = counts_none a.size c.leaf_count.ensures c.in_err-n.was in
    by_size (digest_in a.mode.now) a.size a.indexes.now a.records.now a.lengths.now a.nodes.now a.out.now
    k.0 (ap (λ r. wrote r a.out.now) e ∙ ap (write_refused a.out.now) k.1)

pub returns-in_err-foresee : goal.returns-in_err-foresee
returns-in_err-foresee c =
    let a = c.args in
    let why = c.in_err-foresee.field-0.0 in
    let e : c.from_residual-in_err-foresee.result ≡ Err why = search rules in
    by_inner (digest_in a.mode.now) a.size a.indexes.now a.records.now a.lengths.now a.nodes.now a.out.now
    (counts_leaves c.leaf_count.ensures c.in_ok-n.was) c.in_err-foresee.ensures (λ z. omega (arith, number_above why))
    (ap (λ r. wrote r a.out.now) e)

-- no refusal but the last applies: no sum wraps
pub overflow_add-length-2 : goal.overflow_add-length-2
overflow_add-length-2 c =
    let a = c.args in
    let n = c.in_ok-n.n in
    let known = foreseen_known n a.indexes.now a.records.now a.lengths.now (digest_in a.mode.now)
    (node_in a.nodes.now) (length a.nodes.now under 32 * a.size) (sym c.in_ok-foresee.ensures) in
    let few : c.digest_count-digests.result ≤ 8192 = omega (arith, c.digest_count-digests.ensures, count_few n a.indexes.now) in
    omega (arith, known.few, known.small)

pub overflow_mul-length-2 : goal.overflow_mul-length-2
overflow_mul-length-2 c =
    let a = c.args in
    let n = c.in_ok-n.n in
    let known = foreseen_known n a.indexes.now a.records.now a.lengths.now (digest_in a.mode.now)
    (node_in a.nodes.now) (length a.nodes.now under 32 * a.size) (sym c.in_ok-foresee.ensures) in
    let few : c.digest_count-digests.result ≤ 8192 = omega (arith, c.digest_count-digests.ensures, count_few n a.indexes.now) in
    omega (arith, known.few, known.small)

pub overflow_add-length-3 : goal.overflow_add-length-3
overflow_add-length-3 c =
    let a = c.args in
    let n = c.in_ok-n.n in
    let known = foreseen_known n a.indexes.now a.records.now a.lengths.now (digest_in a.mode.now)
    (node_in a.nodes.now) (length a.nodes.now under 32 * a.size) (sym c.in_ok-foresee.ensures) in
    let few : c.digest_count-digests.result ≤ 8192 = omega (arith, c.digest_count-digests.ensures, count_few n a.indexes.now) in
    omega (arith, known.few, known.small)

pub returns-then-out-length : goal.returns-then-out-length
returns-then-out-length c =
    let a = c.args in
    let n = c.in_ok-n.n in
    let counts = counts_leaves c.leaf_count.ensures c.in_ok-n.was in
    let known = foreseen_known n a.indexes.now a.records.now a.lengths.now (digest_in a.mode.now)
    (node_in a.nodes.now) (length a.nodes.now under 32 * a.size) (sym c.in_ok-foresee.ensures) in
    let e = c.digest_count-digests.ensures in
    let l = our_length a.mode.now a.indexes.now a.records.now a.lengths.now a.nodes.now counts known.each in
    by_room (digest_in a.mode.now) a.size a.indexes.now a.records.now a.lengths.now a.nodes.now a.out.now
    counts c.in_ok-foresee.ensures (omega arith) refl

pub overflow_cast-indexes : goal.overflow_cast-indexes
overflow_cast-indexes c =
    let a = c.args in
    let n = c.in_ok-n.n in
    let known = foreseen_known n a.indexes.now a.records.now a.lengths.now (digest_in a.mode.now)
    (node_in a.nodes.now) (length a.nodes.now under 32 * a.size) (sym c.in_ok-foresee.ensures) in
    let few : c.digest_count-digests.result ≤ 8192 = omega (arith, c.digest_count-digests.ensures, count_few n a.indexes.now) in
    omega (arith, known.few, known.small)

-- room for the letter
pub write_entries-end-requires : goal.write_entries-end-requires
write_entries-end-requires c =
    let a = c.args in
    let n = c.in_ok-n.n in
    let known = foreseen_known n a.indexes.now a.records.now a.lengths.now (digest_in a.mode.now)
    (node_in a.nodes.now) (length a.nodes.now under 32 * a.size) (sym c.in_ok-foresee.ensures) in
    let e = c.digest_count-digests.ensures in
    record { each = known.each; fits = omega arith }

pub returns : goal.returns
returns c =
    let a = c.args in
    let n = c.in_ok-n.n in
    let counts = counts_leaves c.leaf_count.ensures c.in_ok-n.was in
    let known = foreseen_known n a.indexes.now a.records.now a.lengths.now (digest_in a.mode.now)
    (node_in a.nodes.now) (length a.nodes.now under 32 * a.size) (sym c.in_ok-foresee.ensures) in
    let e = c.digest_count-digests.ensures in
    let l = our_length a.mode.now a.indexes.now a.records.now a.lengths.now a.nodes.now counts known.each in
    by_none (digest_in a.mode.now) a.size a.indexes.now a.records.now a.lengths.now a.nodes.now a.out.now
    counts c.in_ok-foresee.ensures (omega arith)
    (passage_done a.mode.now a.indexes.now a.records.now a.lengths.now a.nodes.now counts known.each a.out.now _
    (omega arith) (omega arith)
    c.write8.ensures c.write2.ensures c.write_entries-end.ensures c.write_digests.ensures)
