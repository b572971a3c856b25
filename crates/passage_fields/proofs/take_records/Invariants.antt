-- What each turn of the loop of `take_records` keeps.
use Rattle.passage_fields.proofs.Taking.{Taking}
use Rattle.passage_fields.proofs.take_records.Given as goal

abbrev pub invariant-loop-k : goal.invariant-loop-k
invariant-loop-k l = Taking l.n l.letter l.count l.indexes l.places l.at l.floor l.k
