-- Each refusal is the first of its order that applies, and where none does the fields, one after the other, fill the first bytes.
use mathlib.Core.Path.{◌≡◌, refl, sym, ap, ◌∙◌}
use Prim.Native.Nat.{ℕ, ◌≤◌}
use native.Mathlib.Omega.{arith}
use Rattle.std.proofs.lemmas.Result.{err_from_is_err_and}
use Rattle.order.proofs.Laws.{refuses, passes}
use Rattle.shape.proofs.Sizes.{size_le}
use Rattle.shape.proofs.Counting.{Counts, counts_leaves, counts_none}
use Rattle.digest.specs.Digest.{digest_in}
use Rattle.wire.specs.Slices.{bit}
use Rattle.nodes.specs.Nodes.{node_in}
use Rattle.letter.specs.Items.{item_count}
use Rattle.letter.proofs.Foreign.{foreign_by}
use Rattle.letter.proofs.ItemsOf.{count_at_most}
use Rattle.letter_writer.specs.Outcome.{write_order, write_over, write_outcome}
use Rattle.letter_writer.proofs.Fills.{our_length, letter_done, none_applies}
use borrow.Author.Rules.{rules}
use Rattle.letter_writer.proofs.write_letter.Goals as goal

pub returns-in_err-n : goal.returns-in_err-n
unfolding write_outcome write_over write_order
returns-in_err-n c =
    let k = counts_none c.args.size c.leaf_count.ensures c.in_err-n.was in
    let p = err_from_is_err_and c.from_residual.result c.from_residual.ensures.1 in
    refuses 1 _ _ _ (rw (p.1, p.2) (cc)) (search rules)

pub returns-then-n-index : goal.returns-then-n-index
unfolding write_outcome write_over write_order
returns-then-n-index c =
    let k = counts_leaves c.leaf_count.ensures c.in_ok-n.was in
    refuses 5 _ _ _ refl (search rules)

pub returns-then-stated-gt-LONGEST_RECORD : goal.returns-then-stated-gt-LONGEST_RECORD
unfolding write_outcome write_over write_order
returns-then-stated-gt-LONGEST_RECORD c =
    let k = counts_leaves c.leaf_count.ensures c.in_ok-n.was in
    refuses 3 _ _ _ refl (search rules)

pub overflow_mul-size : goal.overflow_mul-size
overflow_mul-size c = let k = counts_leaves c.leaf_count.ensures c.in_ok-n.was in omega (arith, size_le c.in_ok-n.n)

pub returns-then-nodes-size : goal.returns-then-nodes-size
unfolding write_outcome write_over write_order
returns-then-nodes-size c =
    let k = counts_leaves c.leaf_count.ensures c.in_ok-n.was in
    refuses 4 _ _ _ refl (search rules)

-- whether the record's digest is the leaf at its place
pub returns-then-foreign : goal.returns-then-foreign
unfolding write_outcome write_over write_order
returns-then-foreign c =
    let a = c.args in
    let d = foreign_by (digest_in a.mode.now) (node_in a.nodes.now) a.index a.rec.now c.digest_of-own.ensures
    (sym (ap bit c.if-foreign.true) ∙ c.foreign.ensures) in
    let k = counts_leaves c.leaf_count.ensures c.in_ok-n.was in
    refuses 13 _ _ _ refl (search rules)

-- the number of items
few : (i : ℕ) {size n k : ℕ} → Counts size n → k ≡ item_count n i → k ≤ 32
few i c e = rw e (count_at_most _ _ c.most)

pub returns-then-out-length : goal.returns-then-out-length
unfolding write_outcome write_over write_order
returns-then-out-length c =
    let a = c.args in
    let d = foreign_by (digest_in a.mode.now) (node_in a.nodes.now) a.index a.rec.now c.digest_of-own.ensures
    (sym (ap bit c.if-foreign.false) ∙ c.foreign.ensures) in
    let k = counts_leaves c.leaf_count.ensures c.in_ok-n.was in
    let f = few a.index k c.item_count-items.ensures in
    let l = our_length a.mode.now a.index a.rec.now a.nodes.now k c.if-n-index.false in
    refuses 6 _ _ _ refl (search rules)

pub returns : goal.returns
unfolding write_outcome write_over write_order
returns c =
    let a = c.args in
    let k = counts_leaves c.leaf_count.ensures c.in_ok-n.was in
    let d = foreign_by (digest_in a.mode.now) (node_in a.nodes.now) a.index a.rec.now c.digest_of-own.ensures
    (sym (ap bit c.if-foreign.false) ∙ c.foreign.ensures) in
    passes _ _ _
    (letter_done a.mode.now a.index a.rec.now a.nodes.now k c.if-n-index.false a.out.now _
    (omega (arith, c.item_count-items.ensures)) (omega arith)
    c.write8.ensures c.write8-2.ensures c.write4.ensures c.write_run.ensures c.write_items.ensures)
    (none_applies a.mode.now a.index a.rec.now a.nodes.now k c.if-n-index.false a.out.now (omega arith) (omega arith) (sym d)
    (omega (arith, c.item_count-items.ensures)))
