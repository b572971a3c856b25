-- The trailing zeros of the complement are the trailing ones.
use Rattle.shape.proofs.Trailing.{trailing_complement}
use Rattle.shape.proofs.merges.Goals as goal

pub returns : goal.returns
returns c = trailing_complement 64 c.args.n c.ranges.n.fits
