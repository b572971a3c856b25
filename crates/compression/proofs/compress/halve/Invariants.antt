-- What each turn of the loop of `halve` keeps, and what falls.
use Rattle.std.proofs.Common.{◌+◌, ◌-◌, get_or}
use lib.Bits.{bit_xor}
use Rattle.words.proofs.Fill.{Fills}
use Rattle.compression.proofs.compress.halve.Given as goal

abbrev pub invariant-loop-i : goal.invariant-loop-i
invariant-loop-i l = Fills (λ k. bit_xor (get_or l.s k 0) (get_or l.s (k + 8) 0)) 8 l.out l.i

abbrev pub decreases-loop-i : goal.decreases-loop-i
decreases-loop-i l = 8 - l.i
