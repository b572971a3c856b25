-- What each turn of the loop of `foreign_refusal` keeps.
use Rattle.digest.specs.Digest.{digest_in}
use Rattle.nodes.specs.Nodes.{node_in}
use Rattle.passage_foresight.proofs.Owned.{Owned}
use Rattle.passage_foresight.proofs.foreign_refusal.Given as goal

abbrev pub invariant-loop-i : goal.invariant-loop-i
invariant-loop-i l = Owned (digest_in l.mode) (node_in l.nodes) l.indexes l.records l.lengths l.at l.i
