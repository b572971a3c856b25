-- Four mixes of sixteen words, put together again: `Quarters` has them written out.
use Rattle.compression.proofs.compress.Quarters.{diagonaled_from}
use Rattle.compression.proofs.compress.diagonals.Goals as goal

pub returns : goal.returns
returns c = diagonaled_from c.args.s c.args.m c.well_formed.0.1.0.1 c.mix-p.ensures c.mix-q.ensures c.mix-t.ensures c.mix-u.ensures
