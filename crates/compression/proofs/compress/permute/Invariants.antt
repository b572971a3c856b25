-- What each turn of the loop of `permute` keeps, and what falls.
use Rattle.std.proofs.Common.{◌-◌, get_or}
use Rattle.compression.specs.Compression.{order}
use Rattle.words.proofs.Fill.{Fills}
use Rattle.compression.proofs.compress.permute.Given as goal

abbrev pub invariant-loop-i : goal.invariant-loop-i
invariant-loop-i l = Fills (λ k. get_or l.m (get_or order k 0) 0) 16 l.out l.i

abbrev pub decreases-loop-i : goal.decreases-loop-i
decreases-loop-i l = 16 - l.i
