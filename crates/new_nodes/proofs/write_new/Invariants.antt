-- What each turn of the loop of `write_new` keeps.
use Rattle.new_nodes.specs.Steps.{left_in}
use Rattle.new_nodes.proofs.Writing.{Writes}
use Rattle.new_nodes.proofs.write_new.Given as goal

abbrev pub invariant-loop-j : goal.invariant-loop-j
invariant-loop-j l = Writes l.mode (left_in l.saved) l.initial.top.bytes l.initial.tail l.tail l.top.bytes l.m l.j
