-- `stored::record_of` meets its contract: a leaf that was read has its stated length after byte 37, and any other answer has an empty part.
use mathlib.Core.Path.{◌≡◌, refl, sym, ap, ◌∙◌}
use mathlib.Core.List.{List, []}
use Prim.Native.Nat.{ℕ, ◌+◌}
use native.Mathlib.Omega.{arith}
use denote.Ref.{Bor}
use lib.ListN.{length}
use Rattle.refusals.specs.Numbers.{number_of}
use Rattle.wire.specs.Slices.{part, zeros}
use Rattle.wire.proofs.Lent.{slice_part, lent_part}
use Rattle.stored.specs.declared.Node.{Node}
use Rattle.stored.specs.declared.Node.TheVariants.{Leaf}
use Rattle.stored.specs.declared.Reading.{Reading}
use Rattle.stored.specs.Read.{ReadOutcome, read_refused, inner_read, leaf_read, values_of, read_outcome, record_part}
use Rattle.stored.proofs.Ends.{of_leaf}
use borrow.Author.Rules.{rules}
use Rattle.stored.proofs.record_of.Goals as goal

-- the part that is handed back, by the outcome of the reading
part_is : (digest : List ℕ → List ℕ) (read : Bor (List ℕ)) (o : ReadOutcome) (xs : List ℕ) (at : ℕ) → read_outcome digest read.now ≡ o
    → xs ≡ part o.start o.length read.now → at ≡ read.ref_ptr.1 + o.start
    → record { bytes = xs; place = (read.ref_ptr.0, at) } ≡ record_part digest read
part_is digest read o xs at p e f = rw p (lent_part read o.start o.length xs at e f)

-- where a leaf was read, its record reaches to the end
leaf_known : (digest : List ℕ → List ℕ) (bs : List ℕ) (r : Reading) (n : ℕ) → values_of r.node r.digest ≡ read_outcome digest bs → r.node ≡ Leaf n
    → (read_outcome digest bs ≡ leaf_read n r.digest) × (length bs ≡ 37 + n)
leaf_known digest bs r n e i =
    let read_known : read_outcome digest bs ≡ leaf_read n r.digest = sym e ∙ ap (λ (x : Node). values_of x r.digest) i in
    let l = of_leaf digest bs (ap (λ (x : ReadOutcome). x.kind) read_known) in
    (read_known, l.exact ∙ ap (λ (x : ReadOutcome). 37 + x.length) (sym l.outcome ∙ read_known))

-- a reading that has no record: the part is empty, at the start
none_known : (digest : List ℕ → List ℕ) (read : Bor (List ℕ)) (o : ReadOutcome) → read_outcome digest read.now ≡ o → o.start ≡ 0 → o.length ≡ 0
    → record { bytes = []; place = (read.ref_ptr.0, read.ref_ptr.1) } ≡ record_part digest read
unfolding part
none_known digest read o p s l = part_is digest read o _ _ p (rw (s, l)) (omega arith)

pub returns-in_default : goal.returns-in_default
returns-in_default c =
    none_known _ c.args.bytes (read_refused (zeros 32) (number_of c.in_default.field-0)) (sym c.in_default.ensures) refl refl

pub overflow_add-result : goal.overflow_add-result
overflow_add-result c =
    let e = leaf_known _ c.args.bytes.now c.in-Ok.reading c.in-Leaf.n c.in-Ok.ensures c.in-Leaf.is in search rules

pub slice_bounds-result-end-in-Leaf : goal.slice_bounds-result-end-in-Leaf
slice_bounds-result-end-in-Leaf c =
    let e = leaf_known _ c.args.bytes.now c.in-Ok.reading c.in-Leaf.n c.in-Ok.ensures c.in-Leaf.is in search rules

pub returns-in-Inner : goal.returns-in-Inner
returns-in-Inner c =
    let r = c.in-Ok.reading in
    none_known _ c.args.bytes (inner_read r.digest) (sym c.in-Ok.ensures ∙ ap (λ x. values_of x r.digest) c.in-Inner.is) refl refl

pub returns-in-Leaf : goal.returns-in-Leaf
returns-in-Leaf c =
    let e = leaf_known _ c.args.bytes.now c.in-Ok.reading c.in-Leaf.n c.in-Ok.ensures c.in-Leaf.is in
    part_is _ c.args.bytes _ _ _ e.0 (slice_part 37 c.in-Leaf.n c.args.bytes.now (omega (arith, e.1))) (omega arith)
