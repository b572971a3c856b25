-- What was foreseen is answered before anything is written, and where nothing was the records are appended one after the other. That comes first, as a
-- batch that foresees less is refused there.
use mathlib.Core.Path.{refl, sym, ap, ◌∙◌}
use native.Mathlib.Omega.{arith}
use Rattle.std.proofs.lemmas.Result.{err_from_is_err_and}
use Rattle.refusals.specs.Numbers.{number_in}
use Rattle.refusals.proofs.Laws.{number_above}
use Rattle.digest.specs.Digest.{digest_in, digest_length}
use Rattle.shape.proofs.Counting.{counts_leaves, counts_none}
use Rattle.records.specs.Records.{cut}
use Rattle.batch.specs.Batch.{begun}
use Rattle.batch.proofs.OneByOne.{run_counts}
use Rattle.batch.proofs.Outcome.{batch_1, foreseen_refused, foreseen_sum, foreseen_done}
use Rattle.batch.proofs.append_many.Goals as goal

pub returns : goal.returns
returns c =
    let a = c.args in
    let k = counts_leaves c.leaf_count.ensures c.in_ok-n.was in
    foreseen_done (digest_in a.mode.now) a.size a.records.now a.lengths.now a.nodes.now (digest_length a.mode.now) k
    (sym (ap number_in c.in_ok-foresee.was) ∙ c.foresee.ensures)
    refl refl c.append_each-grown.ensures

pub returns-in_err-n : goal.returns-in_err-n
returns-in_err-n c =
    let k = counts_none c.args.size c.leaf_count.ensures c.in_err-n.was in
    let p = err_from_is_err_and c.from_residual.result c.from_residual.ensures.1 in
    batch_1 _ _ _ _ _ (rw (p.1, p.2, k.1) refl) k.0

pub returns-in_err-foresee : goal.returns-in_err-foresee
returns-in_err-foresee c =
    let a = c.args in
    let k = counts_leaves c.leaf_count.ensures c.in_ok-n.was in
    let p = err_from_is_err_and c.from_residual-in_err-foresee.result c.from_residual-in_err-foresee.ensures.1 in
    foreseen_refused _ _ _ _ _ (digest_length a.mode.now) k (sym (ap number_in c.in_err-foresee.was) ∙ c.foresee.ensures)
    (λ z. omega (arith, number_above c.in_err-foresee.field-0.0)) (rw (p.1, p.2) refl)

pub append_each-grown-requires : goal.append_each-grown-requires
append_each-grown-requires c =
    let a = c.args in
    let k = counts_leaves c.leaf_count.ensures c.in_ok-n.was in
    foreseen_sum (digest_in a.mode.now) a.size a.records.now a.lengths.now a.nodes.now (digest_length a.mode.now) k
    (sym (ap number_in c.in_ok-foresee.was) ∙ c.foresee.ensures) (λ z. omega arith)

pub overflow_sub-result : goal.overflow_sub-result
overflow_sub-result c =
    let a = c.args in
    omega (
      arith,
      c.append_each-grown.ensures.size,
      run_counts (digest_in a.mode.now) (begun a.size a.nodes.now) (cut a.lengths.now a.records.now),
    )
