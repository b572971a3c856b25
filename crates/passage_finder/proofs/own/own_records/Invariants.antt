-- What each turn of the loop of `own_records` keeps.
use Rattle.digest.specs.Digest.{digest_in}
use Rattle.nodes.specs.Nodes.{node_in}
use Rattle.passage_finder.proofs.Records.{Going}
use Rattle.passage_finder.proofs.own.own_records.Given as goal

abbrev pub invariant-loop-k : goal.invariant-loop-k
invariant-loop-k l = Going (digest_in l.mode) (node_in l.nodes) l.is l.places l.records l.lengths l.letter l.first l.at l.k
