-- Two inputs differ where their halves do.
use mathlib.Core.Path.{◌≡◌, sym, ◌∙◌}
use native.Mathlib.Omega.{arith}
use borrow.Author.Rules.{rules}
use lib.ListN.{length}
use Rattle.inputs.proofs.Differences.{apart_left, apart_right}
use Rattle.inputs.proofs.inputs_differ.Goals as goal

pub returns-then-digests_differ : goal.returns-then-digests_differ
returns-then-digests_differ c =
    let a = c.args.a in
    let b = c.args.b in
    let n : length a.left.bytes ≡ 32 = search rules in
    let m : length b.left.bytes ≡ 32 = search rules in
    c.digests_differ.ensures
    ∙ apart_left a.left.bytes a.right.bytes b.left.bytes b.right.bytes (n ∙ sym m) (λ z. omega (arith, c.if-digests_differ.ensures, z))

pub returns-else-digests_differ : goal.returns-else-digests_differ
returns-else-digests_differ c =
    let a = c.args.a in
    let b = c.args.b in
    c.digests_differ-else-digests_differ.ensures
    ∙ apart_right a.left.bytes a.right.bytes b.left.bytes b.right.bytes (sym (c.if-digests_differ.ensures))
