-- `letter_checker::check` meets its contract: each refusal is the first of its order that applies, and where none does the fields are the letter's.
use mathlib.Core.Path.{◌≡◌, refl, sym, ap, ◌∙◌}
use mathlib.Core.List.{List}
use Prim.Native.Nat.{ℕ}
use native.Mathlib.Omega.{arith}
use Rattle.std.specs.Prelude.{Result, Ok}
use Rattle.std.proofs.lemmas.Result.{err_from_is_err_and}
use Rattle.refusals.specs.declared.Refused.{Refused}
use Rattle.order.proofs.Laws.{refuses}
use Rattle.digest.specs.Digest.{digest_in}
use Rattle.wire.specs.Slices.{bit}
use Rattle.shape.specs.Sizes.{leaves}
use Rattle.shape.proofs.Counting.{Counts, counts_leaves, counts_none}
use Rattle.letter.specs.declared.Fields.{Fields}
use Rattle.letter.specs.Checking.{taken_apart, behind_order, fields_order, fields_outcome, from7}
use Rattle.letter.proofs.Apart.{Apart, apart, worked_slices}
use Rattle.letter_checker.specs.Outcome.{check_order, check_outcome}
use Rattle.letter_checker.proofs.Answers.{letter_refused, root_refuses, all_pass}
use borrow.Author.Rules.{rules}
use Rattle.letter_checker.proofs.check.Goals as goal

-- the letter taken apart, for the leaf count of the size
fielded : (size : ℕ) (bytes : List ℕ) {n : ℕ} (r : Result Fields Refused) → Counts size n → taken_apart r ≡ fields_outcome size n bytes
    → taken_apart r ≡ fields_outcome size (leaves size) bytes
fielded size bytes r k e = e ∙ ap (λ (n : ℕ). fields_outcome size n bytes) (sym k.value)

-- its fields, where nothing refuses
taken : (size : ℕ) (bytes : List ℕ) {n : ℕ} {r : Result Fields Refused} {f : Fields} → Counts size n
    → taken_apart r ≡ fields_outcome size n bytes → r ≡ Ok f → Apart size (leaves size) bytes f
taken size bytes {r = r} k e w = apart size (leaves size) bytes {r = r} (fielded size bytes r k e) w

pub returns-in_err-n : goal.returns-in_err-n
unfolding check_outcome check_order from7 fields_order behind_order
returns-in_err-n c =
    let k = counts_none c.args.size c.leaf_count.ensures c.in_err-n.was in
    let p = err_from_is_err_and c.from_residual.result c.from_residual.ensures.1 in
    refuses 1 _ _ _ (rw (p.1, p.2) (cc)) (search rules)

pub returns-then-root-ne32 : goal.returns-then-root-ne32
unfolding check_outcome check_order from7 fields_order behind_order
returns-then-root-ne32 c =
    let k = counts_leaves c.leaf_count.ensures c.in_ok-n.was in
    refuses 12 _ _ _ refl (search rules)

pub returns-in_err-f : goal.returns-in_err-f
returns-in_err-f c =
    let p = err_from_is_err_and c.from_residual-in_err-f.result c.from_residual-in_err-f.ensures.1 in
    rw (p.1, p.2) (letter_refused _ _ _ _ c.leaf_count.ensures c.in_ok-n.was c.if-root-ne32.false c.take_apart.ensures c.in_err-f.was)

pub overflow_add-end : goal.overflow_add-end
overflow_add-end c =
    let t = taken _ _ (counts_leaves c.leaf_count.ensures c.in_ok-n.was) c.take_apart.ensures c.in_ok-f.was in
    omega (arith, t.start, t.long, t.short)

pub slice_bounds-root_of-end : goal.slice_bounds-root_of-end
slice_bounds-root_of-end c =
    let t = taken _ _ (counts_leaves c.leaf_count.ensures c.in_ok-n.was) c.take_apart.ensures c.in_ok-f.was in
    omega (arith, t.exact)

pub slice_bounds-root_of-count-2 : goal.slice_bounds-root_of-count-2
slice_bounds-root_of-count-2 c =
    let t = taken _ _ (counts_leaves c.leaf_count.ensures c.in_ok-n.was) c.take_apart.ensures c.in_ok-f.was in
    omega (arith, t.exact)

pub slice_bounds-root_of-start-2 : goal.slice_bounds-root_of-start-2
slice_bounds-root_of-start-2 c =
    let t = taken _ _ (counts_leaves c.leaf_count.ensures c.in_ok-n.was) c.take_apart.ensures c.in_ok-f.was in
    omega (arith, t.exact)

-- the root worked out is that of the letter; first where all passes, as a checker that accepts every root is refused there
pub returns : goal.returns
returns c =
    let k = counts_leaves c.leaf_count.ensures c.in_ok-n.was in
    let t = taken c.args.size c.args.letter.now k c.take_apart.ensures c.in_ok-f.was in
    all_pass (digest_in c.args.mode.now) _ _ _ k.number c.if-root-ne32.false t {made = c.root_of-made.result.bytes}
    (worked_slices _ _ _ _ t (digest_in c.args.mode.now) (rw k.value c.root_of-made.ensures)) (omega (arith, ap bit c.if-differ.false))

pub returns-then-differ : goal.returns-then-differ
returns-then-differ c =
    let k = counts_leaves c.leaf_count.ensures c.in_ok-n.was in
    let t = taken c.args.size c.args.letter.now k c.take_apart.ensures c.in_ok-f.was in
    root_refuses (digest_in c.args.mode.now) _ _ _ k.number c.if-root-ne32.false t {made = c.root_of-made.result.bytes}
    (worked_slices _ _ _ _ t (digest_in c.args.mode.now) (rw k.value c.root_of-made.ensures)) (λ z. omega (arith, ap bit c.if-differ.true, z))
