-- `passage_fields::take_apart` meets its contract: what comes before the exact length, and then that (`Front`).
use mathlib.Core.Path.{◌≡◌, sym, ap, ◌∙◌}
use Prim.Native.Nat.{◌≤◌}
use native.Mathlib.Omega.{arith}
use borrow.Author.Rules.{rules}
use lib.Seq.{length-take-le}
use Rattle.std.specs.Prelude.{Err}
use Rattle.passage.proofs.Digests.{count_few}
use Rattle.refusals.proofs.Laws.{number_above}
use Rattle.passage_fields.specs.Fields.{taken_apart}
use Rattle.passage_fields.proofs.Front.{front_refuses, fronted, exact_is, exact_refuses, exact_passes}
use Rattle.passage_fields.proofs.take_apart.Goals as goal

pub returns-in_err-f : goal.returns-in_err-f
returns-in_err-f c =
    let a = c.args in
    let why = c.in_err-f.field-0.0 in
    let e : c.from_residual.result ≡ Err why = search rules in
    ap taken_apart e ∙ front_refuses a.size a.n a.letter.now (number_above why) c.in_err-f.ensures

pub slice_bounds-indexes-end : goal.slice_bounds-indexes-end
slice_bounds-indexes-end c =
    let a = c.args in
    let t = fronted a.size a.n a.letter.now c.in_ok-f.ensures in
    omega (arith, t.few, t.indexes_long)

pub slice_bounds-digest_count-end : goal.slice_bounds-digest_count-end
slice_bounds-digest_count-end c =
    let a = c.args in
    let t = fronted a.size a.n a.letter.now c.in_ok-f.ensures in
    sym (length-take-le c.in_ok-f.f.count c.in_ok-f.f.indexes (omega (arith, t.few, t.indexes_long)))

-- at most 8,192 digests, and the length that is asked for
pub overflow_mul-digests : goal.overflow_mul-digests
overflow_mul-digests c =
    let f : c.digest_count-digests.result ≤ 8192 = rw c.digest_count-digests.ensures (count_few _ _) in
    omega arith

pub overflow_add-f : goal.overflow_add-f
overflow_add-f c =
    let a = c.args in
    let t = fronted a.size a.n a.letter.now c.in_ok-f.ensures in
    let f : c.digest_count-digests.result ≤ 8192 = rw c.digest_count-digests.ensures (count_few _ _) in
    omega (arith, t.near)

pub returns-then-letter-f : goal.returns-then-letter-f
returns-then-letter-f c =
    let a = c.args in
    let e = exact_is a.size a.n a.letter.now c.in_ok-f.ensures c.digest_count-digests.ensures in
    exact_refuses a.size a.n a.letter.now c.in_ok-f.ensures (λ h. omega (arith, e))

pub returns : goal.returns
returns c =
    let a = c.args in
    let e = exact_is a.size a.n a.letter.now c.in_ok-f.ensures c.digest_count-digests.ensures in
    exact_passes a.size a.n a.letter.now c.in_ok-f.ensures (omega (arith, e))
