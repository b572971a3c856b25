-- Each refusal is the first of its order that applies, part by part; a letter of the right form is compared.
use mathlib.Core.Path.{◌≡◌, refl, sym, ap, ◌∙◌}
use Prim.Native.Nat.{ℕ, ◌*◌}
use native.Mathlib.Omega.{arith}
use lib.ListN.{length}
use Rattle.std.specs.Prelude.{Err}
use Rattle.refusals.proofs.Laws.{number_above}
use Rattle.digest.specs.Digest.{digest_in}
use Rattle.order.specs.Order.{◌under◌}
use Rattle.order.proofs.Laws.{refuses, passes}
use Rattle.shape.proofs.Sizes.{size_le}
use Rattle.shape.proofs.Counting.{counts_leaves, counts_none}
use Rattle.nodes.specs.Nodes.{node_in}
use Rattle.evidence_log.specs.Outcome.{root_order}
use Rattle.findings.specs.Outcome.{named_refused, named}
use Rattle.passage_fields.proofs.Apart.{apart}
use Rattle.passage_finder.specs.Outcome.{find_outcome}
use Rattle.passage_finder.specs.Steps.{comparing}
use Rattle.passage_finder.proofs.Stages.{find_parts}
use Rattle.passage_finder.proofs.Formed.{formed, refused_fields}
use borrow.Author.Rules.{rules}
use Rattle.passage_finder.proofs.find.Goals as goal

pub returns-in_err-n : goal.returns-in_err-n
unfolding find_outcome root_order
returns-in_err-n c =
    let a = c.args in
    let e : c.from_residual.result ≡ Err c.in_err-n.field-0.0 = search rules in
    let k = counts_none a.size c.leaf_count.ensures c.in_err-n.was in
    refuses 1 _ _ _ (ap (λ r. named r a.first.now a.second.now) e ∙ ap (named_refused a.first.now a.second.now) k.1) (search rules)
    ∙ sym (find_parts (digest_in a.mode.now) _ a.size _ _ _ _ _ _)

pub returns-then-n-eq0 : goal.returns-then-n-eq0
unfolding find_outcome root_order
returns-then-n-eq0 c =
    let a = c.args in
    let k = counts_leaves c.leaf_count.ensures c.in_ok-n.was in
    refuses 10 _ _ _ refl (search rules)
    ∙ sym (find_parts (digest_in a.mode.now) _ a.size _ _ _ _ _ _)

pub overflow_mul-size : goal.overflow_mul-size
overflow_mul-size c = let k = counts_leaves c.leaf_count.ensures c.in_ok-n.was in omega (arith, size_le c.in_ok-n.n)

pub returns-then-nodes-size : goal.returns-then-nodes-size
unfolding find_outcome root_order
returns-then-nodes-size c =
    let a = c.args in
    let k = counts_leaves c.leaf_count.ensures c.in_ok-n.was in
    refuses 4 _ _ _ refl (search rules)
    ∙ sym (find_parts (digest_in a.mode.now) _ a.size _ _ _ _ _ _)

pub returns-in_err-f : goal.returns-in_err-f
unfolding find_outcome root_order
returns-in_err-f c =
    let a = c.args in
    let k = counts_leaves c.leaf_count.ensures c.in_ok-n.was in
    let why = c.in_err-f.field-0.0 in
    let e : c.from_residual-in_err-f.result ≡ Err why = search rules in
    ap (λ r. named r a.first.now a.second.now) e
    ∙ passes _ (root_order (length a.nodes.now under 32 * a.size) a.size) _
    (refused_fields a.letter.now k a.first.now a.second.now _ (number_above why) c.in_err-f.ensures)
    (search rules)
    ∙ sym (find_parts (digest_in a.mode.now) _ a.size _ _ _ _ _ _)

pub against-requires : goal.against-requires
against-requires c =
    let a = c.args in
    formed a.letter.now (counts_leaves c.leaf_count.ensures c.in_ok-n.was) c.in_ok-f.ensures (omega arith)

pub returns : goal.returns
unfolding find_outcome root_order
returns c =
    let a = c.args in
    let k = counts_leaves c.leaf_count.ensures c.in_ok-n.was in
    let f = apart a.size c.in_ok-n.n a.letter.now c.in_ok-f.ensures in
    let e = c.against.ensures
    ∙ ap (λ (m : ℕ). comparing (digest_in a.mode.now) (node_in a.nodes.now) m a.records.now a.lengths.now a.letter.now
    a.first.now a.second.now) (sym k.value) in
    passes _ (root_order (length a.nodes.now under 32 * a.size) a.size) _
    (passes _ _ _ e (rw k.value f.passes))
    (search rules)
    ∙ sym (find_parts (digest_in a.mode.now) _ a.size _ _ _ _ _ _)
