-- `passage_run::show_rows` is safe: the loop runs up to a place within the input.
use Rattle.std.proofs.Common.{◌≤◌, length}
use Rattle.passage_run.proofs.show_rows.Given as goal

abbrev pub invariant-loop-at : goal.invariant-loop-at
invariant-loop-at g l = l.end ≤ length l.input
