-- Sixteen words, written out, are the two lists of eight joined.
use Rattle.words.proofs.Blocks.{joined}
use Rattle.words.proofs.join.Goals as goal

pub returns : goal.returns
returns c = joined c.args.l c.args.r c.well_formed.0.1.0.1 c.well_formed.1.0.1.0.1
