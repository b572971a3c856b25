-- Each refusal is the first of its order that applies, part by part; a letter of the right form is compared.
use mathlib.Core.Path.{◌≡◌, refl, sym, ◌∙◌}
use Prim.Native.Nat.{◌*◌}
use native.Mathlib.Omega.{arith}
use borrow.Author.Rules.{rules}
use lib.ListN.{length}
use Rattle.std.specs.Prelude.{Err}
use Rattle.digest.specs.Digest.{digest_in}
use Rattle.order.specs.Order.{◌under◌}
use Rattle.order.proofs.Laws.{refuses, passes}
use Rattle.shape.proofs.Sizes.{size_le}
use Rattle.shape.proofs.Counting.{counts_leaves, counts_none}
use Rattle.evidence_log.specs.Outcome.{root_order}
use Rattle.letter.proofs.Apart.{apart}
use Rattle.letter_finder.specs.Outcome.{find_outcome}
use Rattle.letter_finder.proofs.Stages.{find_parts}
use Rattle.letter_finder.proofs.Formed.{fields_pass, formed, refused_fields}
use Rattle.letter_finder.proofs.find.Goals as goal

pub returns-in_err-n : goal.returns-in_err-n
unfolding find_outcome root_order
returns-in_err-n c =
    let a = c.args in
    let why = c.in_err-n.field-0.0 in
    let e : c.from_residual.result ≡ Err why = search rules in
    let k = counts_none a.size c.leaf_count.ensures c.in_err-n.was in
    rw e (refuses 1 _ _ _ (rw k.1) (search rules) ∙ sym (find_parts (digest_in a.mode.now) _ a.size _ _ _ _ _))

pub returns-then-n-eq0 : goal.returns-then-n-eq0
unfolding find_outcome root_order
returns-then-n-eq0 c =
    let a = c.args in
    let k = counts_leaves c.leaf_count.ensures c.in_ok-n.was in
    refuses 10 _ _ _ refl (search rules) ∙ sym (find_parts (digest_in a.mode.now) _ a.size _ _ _ _ _)

pub overflow_mul-size : goal.overflow_mul-size
overflow_mul-size c = let k = counts_leaves c.leaf_count.ensures c.in_ok-n.was in omega (arith, size_le c.in_ok-n.n)

pub returns-then-nodes-size : goal.returns-then-nodes-size
unfolding find_outcome root_order
returns-then-nodes-size c =
    let a = c.args in
    let k = counts_leaves c.leaf_count.ensures c.in_ok-n.was in
    refuses 4 _ _ _ refl (search rules) ∙ sym (find_parts (digest_in a.mode.now) _ a.size _ _ _ _ _)

pub returns-in_err-f : goal.returns-in_err-f
unfolding find_outcome root_order
returns-in_err-f c =
    let a = c.args in
    let why = c.in_err-f.field-0.0 in
    let e : c.from_residual-in_err-f.result ≡ Err why = search rules in
    let k = counts_leaves c.leaf_count.ensures c.in_ok-n.was in
    rw e
    (passes _ (root_order (length a.nodes.now under 32 * a.size) a.size) _
    (refused_fields a.letter.now k a.first.now a.second.now _ c.take_apart.ensures c.in_err-f.was) (search rules)
    ∙ sym (find_parts (digest_in a.mode.now) _ a.size _ _ _ _ _))

pub overflow_add-end : goal.overflow_add-end
overflow_add-end c = let f = apart c.args.size c.in_ok-n.n c.args.letter.now c.take_apart.ensures c.in_ok-f.was in omega (arith, f.start, f.long, f.short)

pub slice_bounds-theirs-end : goal.slice_bounds-theirs-end
slice_bounds-theirs-end c = let f = apart c.args.size c.in_ok-n.n c.args.letter.now c.take_apart.ensures c.in_ok-f.was in omega (arith, f.exact)

pub slice_bounds-items-count : goal.slice_bounds-items-count
slice_bounds-items-count c = let f = apart c.args.size c.in_ok-n.n c.args.letter.now c.take_apart.ensures c.in_ok-f.was in omega (arith, f.exact)

pub slice_bounds-items-start : goal.slice_bounds-items-start
slice_bounds-items-start c = let f = apart c.args.size c.in_ok-n.n c.args.letter.now c.take_apart.ensures c.in_ok-f.was in omega (arith, f.exact)

pub against-requires : goal.against-requires
against-requires c =
    let k = counts_leaves c.leaf_count.ensures c.in_ok-n.was in
    ((apart c.args.size c.in_ok-n.n c.args.letter.now c.take_apart.ensures c.in_ok-f.was).inside, k.most)

pub returns : goal.returns
unfolding find_outcome root_order
returns c =
    let a = c.args in
    let k = counts_leaves c.leaf_count.ensures c.in_ok-n.was in
    let f = apart a.size c.in_ok-n.n a.letter.now c.take_apart.ensures c.in_ok-f.was in
    passes _ (root_order (length a.nodes.now under 32 * a.size) a.size) _
    (passes _ _ _ (formed a.letter.now k f (digest_in a.mode.now) a.nodes.now a.rec.now a.first.now a.second.now c.against.ensures) (fields_pass a.letter.now k f))
    (search rules)
    ∙ sym (find_parts (digest_in a.mode.now) _ a.size _ _ _ _ _)
