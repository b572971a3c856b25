-- The root from the height of n leaves down, with the record's digest for the leaf.
use native.Mathlib.Omega.{arith}
use Rattle.digest.specs.Digest.{digest_in}
use Rattle.shape.proofs.Heights.{height_least}
use Rattle.letter.proofs.Sides.{side_whole}
use Rattle.letter_root.proofs.root_of.Goals as goal

pub work-top-requires : goal.work-top-requires
work-top-requires c = omega (arith, height_least c.args.n 64 (omega arith))

pub returns : goal.returns
returns c = side_whole (digest_in c.args.mode.now) _ _ _ _ _ c.height.ensures c.digest_of-leaf.ensures c.work-top.ensures.1
