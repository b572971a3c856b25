-- Each refusal is the first of its order that applies, and where none does the new nodes stand behind the old ones.
use mathlib.Core.Path.{◌≡◌, refl, ap, ap₂}
use mathlib.Core.List.{List}
use Prim.Native.Nat.{ℕ, ◌+◌, ◌*◌, ◌^◌, ◌≤◌, ◌<◌}
use native.Mathlib.Omega.{arith}
use lib.ListN.{length}
use Rattle.std.proofs.lemmas.Result.{err_from_is_err_and}
use Rattle.refusals.specs.declared.Refused.{Refused}
use Rattle.refusals.specs.declared.Refused.TheVariants.{NodesTooShort}
use Rattle.refusals.specs.Numbers.{number_of}
use Rattle.order.proofs.Laws.{refuses, passes}
use Rattle.digest.specs.Digest.{digest_in}
use Rattle.shape.specs.Sizes.{trailing_ones}
use Rattle.shape.proofs.Counting.{Counts, counts_leaves, counts_none, grown_size, merges_few, lefts_room}
use Rattle.new_nodes.proofs.Told.{put_none, put_some}
use Rattle.evidence_log.specs.Outcome.{append_refused, append_order, append_over, append_outcome}
use Rattle.evidence_log.proofs.Done.{append_done_lem}
use borrow.Author.Rules.{rules}
use Rattle.evidence_log.proofs.append.Goals as goal

-- in what follows `k`: the leaf count, where there is one
pub returns-in_err-n : goal.returns-in_err-n
unfolding append_outcome append_over append_order
returns-in_err-n c =
    let k = counts_none c.args.size c.leaf_count.ensures c.in_err-n.was in
    let p = err_from_is_err_and c.from_residual.result c.from_residual.ensures.1 in
    refuses 1 _ _ _ (rw (p.1, p.2) (cc)) (search rules)

pub returns-then-n-eq-MOST_LEAVES : goal.returns-then-n-eq-MOST_LEAVES
unfolding append_outcome append_over append_order
returns-then-n-eq-MOST_LEAVES c =
    let k = counts_leaves c.leaf_count.ensures c.in_ok-n.was in
    refuses 2 _ _ _ refl (search rules)

pub returns-then-rec-gt-LONGEST_RECORD : goal.returns-then-rec-gt-LONGEST_RECORD
unfolding append_outcome append_over append_order
returns-then-rec-gt-LONGEST_RECORD c =
    let k = counts_leaves c.leaf_count.ensures c.in_ok-n.was in
    refuses 3 _ _ _ refl (search rules)

-- the place is one of the log
rooms : {size n m : ℕ} → Counts size n → m ≡ trailing_ones n → n < 2 ^ 32 → (m ≤ 32) × (2 ^ m ≤ size + 1)
rooms k e h = (merges_few k e h, (lefts_room k e).1)

pub returns-in_err-hashes : goal.returns-in_err-hashes
unfolding append_outcome append_over append_order
returns-in_err-hashes c =
    let a = c.args in
    let k = counts_leaves c.leaf_count.ensures c.in_ok-n.was in
    let g = grown_size k c.merges.ensures in
    let r = rooms k c.merges.ensures (omega arith) in
    let n = put_none (digest_in a.mode.now) a.size c.merges.result a.rec.now a.nodes.now r.0 (omega (arith, r.1))
    c.put_new-put.ensures c.in_err-hashes.ensures.ok_part in
    let p = err_from_is_err_and c.from_residual-in_err-hashes.result c.from_residual-in_err-hashes.ensures.1 in
    let v = rw c.in_err-hashes.ensures.ok_part at c.in_err-hashes.ensures.value in
    let w : c.in_err-hashes.field-0.0 ≡ NodesTooShort = cc in
    refuses 4 _ _ _ (rw (p.1, p.2) (ap₂ (λ (x : Refused) (l : List ℕ). append_refused a.size l (number_of x)) w n.1)) (search rules)

pub overflow_add-result : goal.overflow_add-result
overflow_add-result c =
    let a = c.args in
    let k = counts_leaves c.leaf_count.ensures c.in_ok-n.was in
    let r = rooms k c.merges.ensures (omega arith) in
    let n = put_some (digest_in a.mode.now) a.size c.merges.result a.rec.now a.nodes.now r.0 (omega (arith, r.1))
    c.put_new-put.ensures c.in_ok-hashes.ensures.ok_part in
    omega (arith, n.1)

pub returns : goal.returns
unfolding append_outcome append_over append_order
returns c =
    let a = c.args in
    let k = counts_leaves c.leaf_count.ensures c.in_ok-n.was in
    let g = grown_size k c.merges.ensures in
    let r = rooms k c.merges.ensures (omega arith) in
    let n = put_some (digest_in a.mode.now) a.size c.merges.result a.rec.now a.nodes.now r.0 (omega (arith, r.1))
    c.put_new-put.ensures c.in_ok-hashes.ensures.ok_part in
    let room : 32 * (a.size + (1 + c.merges.result)) ≤ length a.nodes.now = n.0 in
    passes _ _ _ (append_done_lem a.mode.now a.rec.now a.nodes.now k c.merges.ensures (ap (λ (h : ℕ). a.size + h) n.1) n.1 n.2) (search rules)
