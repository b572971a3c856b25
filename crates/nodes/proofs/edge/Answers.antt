-- The digest at position p is the 32 bytes from 32 p on, and no buffer reaches position 2^59.
use mathlib.Core.Path.{sym}
use native.Mathlib.Omega.{arith}
use Rattle.wire.proofs.Parts.{part_beyond}
use Rattle.nodes.specs.Nodes.{node_in}
use Rattle.nodes.proofs.edge.Goals as goal

pub returns-then-p-ge-BEYOND : goal.returns-then-p-ge-BEYOND
unfolding node_in
returns-then-p-ge-BEYOND c = sym (part_beyond _ 32 _ (omega arith))

pub returns : goal.returns
unfolding node_in
returns c = c.read_digest.ensures
