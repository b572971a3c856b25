-- Within a peak the node is read, above the peaks nothing. The first comes first, as a fork that reads a node above the peaks is refused there.
use mathlib.Core.Path.{sym, ap, ◌∙◌}
use mathlib.Core.List.{List}
use Prim.Native.Nat.{ℕ}
use Rattle.std.specs.Prelude.{Option, Some}
use Rattle.inputs.proofs.Forks.{top_within, top_above}
use Rattle.inputs.proofs.fork.Fork.top.Goals as goal

pub returns : goal.returns
returns c =
    let a = c.args in
    ap {B = Option (List ℕ)} Some c.node_at.ensures ∙ sym (top_within a.nodes.now a.self.half a.self.rest a.self.mid c.if-self.false)

pub returns-then-self : goal.returns-then-self
returns-then-self c = let a = c.args in sym (top_above a.nodes.now a.self.half a.self.rest a.self.mid c.if-self.true)
