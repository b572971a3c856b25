-- `stored::read_node` meets its contract: each return is the first refusal that applies, or done, in the order for the flag that was read.
use mathlib.Core.Path.{◌≡◌, refl, sym, ap, ap₂, ◌∙◌}
use mathlib.Core.List.{List}
use Prim.Native.Nat.{ℕ}
use native.Mathlib.Omega.{arith}
use Rattle.order.proofs.Laws.{Refuses, refuses, passes}
use Rattle.wire.specs.Slices.{bit, zeros}
use Rattle.digest.specs.Digest.{digest_in}
use Rattle.stored.specs.Nodes.{flag_in, named_in, stated_in, lies}
use Rattle.stored.specs.Read.{read_refused, inner_read, leaf_read, read_order, read_outcome}
use Rattle.stored.proofs.Fields.{lies_by}
use Rattle.stored.proofs.Flags.{on_leaf, read_inner, read_leaf}
use borrow.Author.Rules.{rules}
use Rattle.stored.proofs.read_node.Goals as goal

-- a leaf that is refused
leaf_refuses : (n : ℕ) (digest : List ℕ → List ℕ) (bs : List ℕ) → flag_in bs ≡ 1 → Refuses n (on_leaf digest bs)
    → read_refused (zeros 32) n ≡ read_outcome digest bs
leaf_refuses n digest bs f h = refuses n _ _ _ refl h ∙ sym (read_leaf digest bs f)

pub returns-then-length-lt33 : goal.returns-then-length-lt33
unfolding read_outcome read_order
returns-then-length-lt33 c = refuses 11 _ _ _ refl (λ h. absurd (omega arith))

pub returns-then-flag-gt1 : goal.returns-then-flag-gt1
unfolding read_outcome read_order
returns-then-flag-gt1 c = refuses 11 _ _ _ refl (λ h h'. absurd (omega arith))

pub returns-then-length-ne33 : goal.returns-then-length-ne33
returns-then-length-ne33 c = refuses 11 _ _ _ refl (search rules) ∙ sym (read_inner _ _ c.if-flag-eq0.true)

pub returns-then-flag-eq0 : goal.returns-then-flag-eq0
unfolding named_in
returns-then-flag-eq0 c = passes _ _ _ (ap inner_read c.read_digest.ensures) (search rules) ∙ sym (read_inner _ _ c.if-flag-eq0.true)

pub returns-then-length-lt37 : goal.returns-then-length-lt37
returns-then-length-lt37 c = leaf_refuses 11 _ _ (search rules) (search rules)

pub returns-then-stated-gt-LONGEST_RECORD : goal.returns-then-stated-gt-LONGEST_RECORD
unfolding stated_in
returns-then-stated-gt-LONGEST_RECORD c = leaf_refuses 3 _ _ (search rules) (search rules)

pub returns-then-length-stated : goal.returns-then-length-stated
unfolding stated_in
returns-then-length-stated c = leaf_refuses 11 _ _ (search rules) (search rules)

-- the leaf has its exact length where its record is hashed
pub worked_out-worked-requires : goal.worked_out-worked-requires
unfolding stated_in
worked_out-worked-requires c = search rules

pub returns : goal.returns
unfolding stated_in named_in
returns c =
    let l : lies (digest_in c.args.mode.now) c.args.bytes.now ≡ 0 =
    sym (c.differ.ensures ∙ lies_by _ c.args.bytes.now c.worked_out-worked.ensures (omega arith)) ∙ ap bit c.if-differ.false in
    passes _ _ _ (ap₂ leaf_read c.read4-stated.ensures c.read_digest-2.ensures) (search rules) ∙ sym (read_leaf _ _ (search rules))

pub returns-then-differ : goal.returns-then-differ
unfolding stated_in
returns-then-differ c =
    let l : lies (digest_in c.args.mode.now) c.args.bytes.now ≡ 1 =
    sym (c.differ.ensures ∙ lies_by _ c.args.bytes.now c.worked_out-worked.ensures (omega arith)) ∙ ap bit c.if-differ.true in
    leaf_refuses 18 _ _ (search rules) (search rules)
