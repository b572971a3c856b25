-- One compression: begin, seven rounds, halve.
use Rattle.compression.specs.Compression.{compressed}
use Rattle.compression.proofs.compress.compress_lane.Goals as goal

pub returns : goal.returns
unfolding compressed
returns c = cc
