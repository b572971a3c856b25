-- The sixteen words, written out, are those that a compression starts from.
use Rattle.compression.proofs.Begun.{begun_words}
use Rattle.compression.proofs.compress.begin.Goals as goal

pub returns : goal.returns
returns c = begun_words c.args.cv c.args.n c.args.len c.args.flags c.well_formed.0.1.0.1
