-- Where the nodes reach position p wholly its 32 bytes are copied; elsewhere the edge answers.
use mathlib.Core.Path.{refl}
use native.Mathlib.Omega.{arith}
use Prim.Native.Nat.{◌*◌}
use Rattle.nodes.specs.Nodes.{node_in}
use Rattle.nodes.proofs.Joined.{copied}
use Rattle.nodes.proofs.node_at.Goals as goal

pub returns : goal.returns
unfolding node_in
returns c = copied _ (32 * c.args.p) (omega arith) refl c.copy_from_slice.ensures.after
