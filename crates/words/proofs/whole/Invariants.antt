-- What each turn of the loop of `whole` keeps.
use Rattle.std.proofs.Common.{◌*◌}
use Rattle.words.specs.Words.{word_at}
use Rattle.words.proofs.Fill.{Fills}
use Rattle.words.proofs.whole.Given as goal

abbrev pub invariant-loop-i : goal.invariant-loop-i
invariant-loop-i g l = Fills (λ k. word_at l.bytes (4 * k)) g.row.N l.out l.i
