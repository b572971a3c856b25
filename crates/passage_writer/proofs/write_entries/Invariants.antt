-- What each turn of the loop of `write_entries` keeps.
use Rattle.passage_writer.proofs.Entries.{Enters}
use Rattle.passage_writer.proofs.write_entries.Given as goal

abbrev pub invariant-loop-i : goal.invariant-loop-i
invariant-loop-i l = Enters l.indexes l.records l.lengths l.initial.out l.out l.place l.at l.i
