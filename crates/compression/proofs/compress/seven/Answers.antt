-- Seven rounds, one after the other.
use Rattle.compression.specs.Compression.{rounded, rounds}
use Rattle.compression.proofs.compress.seven.Goals as goal

pub returns : goal.returns
unfolding rounds rounded
returns c = cc
