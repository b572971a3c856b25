-- Each part of the order in turn: the request, the lengths, the limits, the node buffer, the records.
use mathlib.Core.Path.{◌≡◌, sym, ap, ◌∙◌}
use native.Mathlib.Omega.{arith}
use borrow.Author.Rules.{rules}
use Prim.Native.Nat.{◌*◌}
use lib.ListN.{length}
use Rattle.digest.specs.Digest.{digest_in}
use Rattle.nodes.specs.Nodes.{node_in}
use Rattle.order.specs.Order.{◌under◌}
use Rattle.std.specs.Prelude.{Err}
use Rattle.refusals.specs.Numbers.{number_in}
use Rattle.refusals.proofs.Laws.{number_above}
use Rattle.order.proofs.Laws.{clear, first_is}
use Rattle.records.specs.Records.{sums_order}
use Rattle.passage_foresight.proofs.Parts.{by_request, by_sums, by_limits, limits_known, by_nodes, by_owned}
use Rattle.passage_foresight.proofs.foresee.Goals as goal

pub returns-in_err-request_refusal : goal.returns-in_err-request_refusal
returns-in_err-request_refusal c =
    let a = c.args in
    let why = c.in_err-request_refusal.field-0.0 in
    let e : c.from_residual.result ≡ Err why = search rules in
    ap number_in e ∙ by_request a.n a.indexes.now a.records.now a.lengths.now _ _ _ (number_above why) c.in_err-request_refusal.ensures

pub returns-in_err-sums_refusal : goal.returns-in_err-sums_refusal
returns-in_err-sums_refusal c =
    let a = c.args in
    let why = c.in_err-sums_refusal.field-0.0 in
    let e : c.from_residual-in_err-sums_refusal.result ≡ Err why = search rules in
    ap number_in e
    ∙ by_sums a.n a.indexes.now a.records.now a.lengths.now _ _ _ c.in_ok-request_refusal.ensures (number_above why) c.in_err-sums_refusal.ensures

pub limits_refusal-requires : goal.limits_refusal-requires
limits_refusal-requires c =
    let a = c.args in
    (clear (sums_order (length a.indexes.now) (length a.records.now) a.lengths.now) tt (sym c.in_ok-sums_refusal.ensures)).0

pub returns-in_err-limits_refusal : goal.returns-in_err-limits_refusal
returns-in_err-limits_refusal c =
    let a = c.args in
    let why = c.in_err-limits_refusal.field-0.0 in
    let e : c.from_residual-in_err-limits_refusal.result ≡ Err why = search rules in
    ap number_in e
    ∙ by_limits a.n a.indexes.now a.records.now a.lengths.now _ _ _ c.in_ok-request_refusal.ensures c.in_ok-sums_refusal.ensures
    (number_above why) c.in_err-limits_refusal.ensures

pub returns-then-nodes-size : goal.returns-then-nodes-size
returns-then-nodes-size c =
    let a = c.args in
    by_nodes a.n a.indexes.now a.records.now a.lengths.now _ _ _ c.in_ok-request_refusal.ensures c.in_ok-sums_refusal.ensures
    c.in_ok-limits_refusal.ensures (first_is 4 _ (λ f. absurd (omega arith)))

pub foreign_refusal-requires : goal.foreign_refusal-requires
foreign_refusal-requires c =
    let a = c.args in
    (limits_known a.n a.indexes.now a.records.now a.lengths.now (digest_in a.mode.now) (node_in a.nodes.now)
    (length a.nodes.now under 32 * a.size) c.in_ok-request_refusal.ensures c.in_ok-sums_refusal.ensures
    c.in_ok-limits_refusal.ensures).each

pub returns : goal.returns
returns c =
    let a = c.args in
    by_owned a.n a.indexes.now a.records.now a.lengths.now _ _ _ c.in_ok-request_refusal.ensures c.in_ok-sums_refusal.ensures
    c.in_ok-limits_refusal.ensures (omega arith, tt) c.foreign_refusal.ensures
