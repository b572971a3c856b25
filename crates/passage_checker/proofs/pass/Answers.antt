-- `passage_checker::pass` meets its contract: each refusal is the first of the order that applies, and where none does the fields are the letter's.
use mathlib.Core.Path.{◌≡◌, refl, sym, ap, ◌∙◌}
use mathlib.Core.List.{List}
use Prim.Native.Nat.{ℕ, ◌+◌, ◌*◌, ◌≤◌}
use native.Mathlib.Omega.{arith}
use borrow.Author.Rules.{rules}
use lib.ListN.{length, take}
use lib.Seq.{length-take-le}
use Rattle.std.specs.Prelude.{Err}
use Rattle.refusals.proofs.Laws.{number_above}
use Rattle.wire.specs.Slices.{bit}
use Rattle.digest.specs.Digest.{digest_in, digest_length}
use Rattle.shape.specs.Sizes.{leaves}
use Rattle.shape.proofs.Counting.{Counts, counts_leaves, counts_none}
use Rattle.passage.specs.Digests.{digest_count, worked_root}
use Rattle.passage.specs.Checking.{exact_for}
use Rattle.passage.proofs.Digests.{count_few}
use Rattle.passage_fields.specs.declared.Fields.{Fields}
use Rattle.passage_fields.specs.Fields.{FieldsOutcome, fields_refused, fields_taken, taken_apart, front_outcome, fields_outcome}
use Rattle.passage_fields.proofs.Front.{front_refuses, fronted, exact_is, exact_refuses, exact_passes}
use Rattle.passage_checker.proofs.Passing.{size_refuses, width_refuses, fields_refuse, root_refuses, all_pass}
use Rattle.passage_checker.proofs.Worked.{worked_slices}
use Rattle.passage_checker.proofs.pass.Goals as goal

pub returns-in_err-n : goal.returns-in_err-n
returns-in_err-n c =
    let a = c.args in
    let e : c.from_residual.result ≡ Err c.in_err-n.field-0.0 = search rules in
    let n = counts_none a.size c.leaf_count.ensures c.in_err-n.was in
    size_refuses (digest_in a.mode.now) a.size a.root.now a.letter.now n.0 (ap taken_apart e ∙ ap fields_refused n.1)

pub returns-then-root-ne32 : goal.returns-then-root-ne32
returns-then-root-ne32 c =
    let a = c.args in
    let k = counts_leaves c.leaf_count.ensures c.in_ok-n.was in
    width_refuses (digest_in a.mode.now) a.size a.root.now a.letter.now k.number c.if-root-ne32.true refl

-- the letter is taken apart but for its exact length, for the leaf count of the size
front : (size : ℕ) (letter : List ℕ) {n : ℕ} {o : FieldsOutcome} → Counts size n → o ≡ front_outcome size n letter
    → o ≡ front_outcome size (leaves size) letter
front size letter k e = e ∙ ap (λ (n : ℕ). front_outcome size n letter) (sym k.value)

pub returns-in_err-f : goal.returns-in_err-f
returns-in_err-f c =
    let a = c.args in
    let k = counts_leaves c.leaf_count.ensures c.in_ok-n.was in
    let why = c.in_err-f.field-0.0 in
    let e : c.from_residual-in_err-f.result ≡ Err why = search rules in
    ap taken_apart e
    ∙ fields_refuse (digest_in a.mode.now) a.size a.root.now a.letter.now k.number c.if-root-ne32.false (number_above why)
    (front_refuses a.size (leaves a.size) a.letter.now (number_above why) (front a.size a.letter.now k c.in_err-f.ensures))

-- nothing has refused it
pub slice_bounds-indexes-end : goal.slice_bounds-indexes-end
slice_bounds-indexes-end c =
    let a = c.args in
    let t = fronted a.size c.in_ok-n.n a.letter.now c.in_ok-f.ensures in
    omega (arith, t.few, t.indexes_long)

pub slice_bounds-starts-end : goal.slice_bounds-starts-end
slice_bounds-starts-end c =
    let a = c.args in
    let t = fronted a.size c.in_ok-n.n a.letter.now c.in_ok-f.ensures in
    omega (arith, t.few, t.places_long)

pub slice_bounds-is-end : goal.slice_bounds-is-end
slice_bounds-is-end c =
    let a = c.args in
    let t = fronted a.size c.in_ok-n.n a.letter.now c.in_ok-f.ensures in
    sym (length-take-le c.in_ok-f.f.count c.in_ok-f.f.indexes (omega (arith, t.few, t.indexes_long)))

pub slice_bounds-places-end : goal.slice_bounds-places-end
slice_bounds-places-end c =
    let a = c.args in
    let t = fronted a.size c.in_ok-n.n a.letter.now c.in_ok-f.ensures in
    sym (length-take-le c.in_ok-f.f.count c.in_ok-f.f.places (omega (arith, t.few, t.places_long)))

pub slice_bounds-root_of-count : goal.slice_bounds-root_of-count
slice_bounds-root_of-count c =
    let a = c.args in
    (fronted a.size c.in_ok-n.n a.letter.now c.in_ok-f.ensures).within

pub slice_bounds-root_of-start : goal.slice_bounds-root_of-start
slice_bounds-root_of-start c =
    let a = c.args in
    let t = fronted a.size c.in_ok-n.n a.letter.now c.in_ok-f.ensures in
    omega (arith, t.within)

-- the root is worked out, with as many digests as are given
pub overflow_mul-made : goal.overflow_mul-made
overflow_mul-made c =
    let few : c.root_of-made.result.used ≤ 8192 = rw c.root_of-made.ensures.used_is (count_few _ _) in
    omega arith

pub overflow_add-f : goal.overflow_add-f
overflow_add-f c =
    let a = c.args in
    let t = fronted a.size c.in_ok-n.n a.letter.now c.in_ok-f.ensures in
    let few : c.root_of-made.result.used ≤ 8192 = rw c.root_of-made.ensures.used_is (count_few _ _) in
    omega (arith, t.near)

-- the length that is asked for
module _ (size : ℕ) (letter : List ℕ) {n : ℕ} {f : Fields} {used : ℕ} (k : Counts size n) (e : fields_taken f ≡ front_outcome size n letter)
    (d : used ≡ digest_count n (take f.count f.indexes)) where
  asked : f.end + 32 * used ≡ exact_for (leaves size) letter
  asked = exact_is size (leaves size) letter (front size letter k e) (rw k.value d)

  -- where the letter is as long as this, it is taken apart
  fielded : length letter ≡ f.end + 32 * used → fields_taken f ≡ fields_outcome size (leaves size) letter
  fielded h = exact_passes size (leaves size) letter (front size letter k e) (h ∙ asked)

pub returns-then-letter-f : goal.returns-then-letter-f
returns-then-letter-f c =
    let a = c.args in
    let k = counts_leaves c.leaf_count.ensures c.in_ok-n.was in
    let e = asked a.size a.letter.now k c.in_ok-f.ensures c.root_of-made.ensures.used_is in
    fields_refuse (digest_in a.mode.now) a.size a.root.now a.letter.now k.number c.if-root-ne32.false (omega arith)
    (exact_refuses a.size (leaves a.size) a.letter.now (front a.size a.letter.now k c.in_ok-f.ensures) (λ h. omega (arith, e)))

-- and the root is the letter's; first where all passes, as a checker that accepts every root is refused there
pub returns : goal.returns
returns c =
    let a = c.args in
    let k = counts_leaves c.leaf_count.ensures c.in_ok-n.was in
    let digest = digest_in a.mode.now in
    let t = fielded a.size a.letter.now k c.in_ok-f.ensures c.root_of-made.ensures.used_is c.if-letter-f.false in
    let worked : c.root_of-made.result.digest.bytes ≡ worked_root digest (leaves a.size) a.letter.now =
    worked_slices a.size (leaves a.size) a.letter.now t digest
    (digest_length a.mode.now) (rw k.value k.most) (rw k.value c.root_of-made.ensures.root_is) in
    all_pass digest a.size a.root.now a.letter.now k.number c.if-root-ne32.false t
    worked (omega (arith, c.differ.ensures, ap bit c.if-differ.false))

pub returns-then-differ : goal.returns-then-differ
returns-then-differ c =
    let a = c.args in
    let k = counts_leaves c.leaf_count.ensures c.in_ok-n.was in
    let digest = digest_in a.mode.now in
    let t = fielded a.size a.letter.now k c.in_ok-f.ensures c.root_of-made.ensures.used_is c.if-letter-f.false in
    let worked : c.root_of-made.result.digest.bytes ≡ worked_root digest (leaves a.size) a.letter.now =
    worked_slices a.size (leaves a.size) a.letter.now t digest
    (digest_length a.mode.now) (rw k.value k.most) (rw k.value c.root_of-made.ensures.root_is) in
    root_refuses digest a.size a.root.now a.letter.now k.number c.if-root-ne32.false t
    worked (λ z. omega (arith, ap bit c.if-differ.true, c.differ.ensures, z))
