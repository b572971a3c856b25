-- `stored_c::keeper_read_node` meets its contract: what the reader answers, then 6, and the results of either kind where it is done.
use mathlib.Core.Path.{refl, sym, ap, ◌∙◌}
use native.Mathlib.Omega.{arith}
use Rattle.refusals.proofs.Laws.{number_above}
use Rattle.stored.specs.Read.{inner_read, leaf_read, values_of}
use Rattle.stored.proofs.Only.{done_number}
use Rattle.stored_c.proofs.Nodes.{read_refused_lem, read_short, read_done_lem}
use Rattle.stored_c.proofs.keeper_read_node.Goals as goal

pub returns-in-Err : goal.returns-in-Err
returns-in-Err c =
    let a = c.args in
    rw c.from.ensures
    (read_refused_lem a.mode.now a.bytes.now a.kind.now a.out.now a.record_at.now a.record_len.now _ c.in-Err.ensures
    (λ z. omega (arith, number_above c.in-Err.why)))

pub returns-then-out-lt32 : goal.returns-then-out-lt32
returns-then-out-lt32 c =
    let a = c.args in
    let r = c.in-Ok.reading in
    rw c.from-then-out-lt32.ensures
    (read_short a.mode.now a.bytes.now a.kind.now a.out.now a.record_at.now a.record_len.now _ c.in-Ok.ensures (done_number r.node r.digest)
    (omega arith))

pub returns-in-Inner : goal.returns-in-Inner
returns-in-Inner c =
    let a = c.args in
    let r = c.in-Ok.reading in
    let e = sym (ap (λ x. values_of x r.digest) c.in-Inner.is) ∙ c.in-Ok.ensures in
    read_done_lem a.mode.now a.bytes.now a.kind.now a.out.now a.record_at.now a.record_len.now (inner_read r.digest) e refl _ (omega arith)
    c.write_digest.ensures

pub returns-in-Leaf : goal.returns-in-Leaf
returns-in-Leaf c =
    let a = c.args in
    let r = c.in-Ok.reading in
    let e = sym (ap (λ x. values_of x r.digest) c.in-Leaf.is) ∙ c.in-Ok.ensures in
    read_done_lem a.mode.now a.bytes.now a.kind.now a.out.now a.record_at.now a.record_len.now (leaf_read c.in-Leaf.n r.digest) e refl _ (omega arith)
    c.write_digest.ensures
