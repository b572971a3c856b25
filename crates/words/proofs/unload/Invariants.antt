-- What each turn of the loop of `unload` keeps.
use Rattle.std.proofs.Common.{◌*◌}
use Rattle.words.specs.Words.{byte_of}
use Rattle.words.proofs.Fill.{Fills}
use Rattle.words.proofs.unload.Given as goal

abbrev pub invariant-loop-i : goal.invariant-loop-i
invariant-loop-i l = Fills (byte_of l.w) 32 l.out (4 * l.i)
