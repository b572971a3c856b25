-- Within a peak the node is compared with the digest of its two children.
use mathlib.Core.Path.{sym, ap, ap₂, ◌∙◌}
use mathlib.Core.List.{List, ◌++◌}
use Prim.Native.Nat.{ℕ}
use Rattle.digest.specs.Digest.{digest_in}
use Rattle.wire.specs.Slices.{differ}
use Rattle.inputs.proofs.Forks.{top_some, top_none}
use Rattle.letter_walk.proofs.broken.Breaking.{top_above, top_within}
use Rattle.letter_walk.proofs.broken.top_broken.Goals as goal

pub returns-in_default : goal.returns-in_default
returns-in_default c =
    let a = c.args.at in
    let none = top_none c.args.nodes.now a.half a.rest a.mid c.in_default.ensures in
    sym (top_above (digest_in c.args.mode.now) c.args.nodes.now a.half a.rest a.mid none)

pub returns : goal.returns
returns c =
    let a = c.args.at in
    let t = top_some c.args.nodes.now a.half a.rest a.mid c.in-Some.top c.in-Some.ensures in
    let children = ap₂ (λ (x y : List ℕ). x ++ y) c.node_at-left.ensures c.node_at-right.ensures in
    c.digests_differ.ensures
    ∙ ap₂ differ t.1 (c.digest_of_pair.ensures ∙ ap (digest_in c.args.mode.now) children)
    ∙ sym (top_within (digest_in c.args.mode.now) c.args.nodes.now a.half a.rest a.mid t.0)
