-- A loop that stores word after word fills the list in P's order; each entry of the table is below 16.
use Rattle.std.proofs.Common.{refl, arith}
use Rattle.compression.specs.Compression.{permuted}
use Rattle.compression.proofs.compress.Permutation.{order_inside}
use Rattle.words.proofs.Fill.{fills_none, fills_more, fills_all}
use Rattle.compression.proofs.compress.permute.Goals as goal

pub loop-i-init : goal.loop-i-init
loop-i-init c = fills_none refl

pub bounds-m-i : goal.bounds-m-i
bounds-m-i c = order_inside c.loop-i.i (omega arith)

pub offset_bounds-m-i : goal.offset_bounds-m-i
offset_bounds-m-i c = omega (arith, bounds-m-i c)

pub loop-i-preserved : goal.loop-i-preserved
loop-i-preserved c = fills_more c.loop-i-test.true refl c.loop-i.invariant

pub returns : goal.returns
unfolding permuted
returns c = fills_all c.loop-i-test.false c.loop-i.invariant
