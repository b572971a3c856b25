-- What each turn of the loop of `list` keeps.
use Rattle.passage_records.proofs.Listing.{Listing}
use Rattle.passage_records.proofs.list.Given as goal

abbrev pub invariant-loop-k : goal.invariant-loop-k
invariant-loop-k l = Listing l.letter l.places l.initial.starts l.initial.lengths l.starts l.lengths l.k
