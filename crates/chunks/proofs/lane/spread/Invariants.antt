-- What each turn of the loop of `spread` keeps.
use Rattle.std.proofs.Common.{◌*◌}
use Rattle.words.proofs.Fill.{Fills}
use Rattle.chunks.proofs.Laned.{rule}
use Rattle.chunks.proofs.lane.spread.Given as goal

abbrev pub invariant-loop-k : goal.invariant-loop-k
invariant-loop-k l = Fills (rule (λ k. l.key)) 32 l.out (8 * l.k)
