-- Two digests in a row are one input.
use mathlib.Core.Path.{◌≡◌, ap, ap₂, sym, ◌∙◌}
use mathlib.Core.List.{List, ◌++◌}
use Prim.Native.Nat.{ℕ, ◌+◌, ◌*◌}
use native.Mathlib.Omega.{arith}
use Rattle.wire.specs.Slices.{part}
use Rattle.wire.proofs.Parts.{part_add}
use Rattle.nodes.specs.Nodes.{node_in}
use Rattle.inputs.proofs.input_at.Goals as goal

pub returns : goal.returns
unfolding node_in
returns c =
    let a = c.args in
    let e : 32 * (2 * a.k) ≡ 64 * a.k = omega arith in
    let f : 32 * (2 * a.k + 1) ≡ 64 * a.k + 32 = omega arith in
    ap₂ (λ (x y : List ℕ). x ++ y)
    (c.node_at-left.ensures ∙ ap (λ (at : ℕ). part at 32 a.list.now) e) (c.node_at-right.ensures ∙ ap (λ (at : ℕ). part at 32 a.list.now) f)
    ∙ sym (part_add (64 * a.k) 32 32 a.list.now)
