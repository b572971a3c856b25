-- The wrapping adds are the sums of whole numbers modulo 2 ^ 32, and a turn is two shifts joined: `Turns` has both laws.
use Rattle.std.proofs.Common.{arith}
use Rattle.compression.specs.Compression.{mixed}
use Rattle.compression.proofs.Turns.{sum3, turned_xor}
use Rattle.compression.proofs.compress.mix.Goals as goal

pub returns : goal.returns
unfolding mixed
returns c =
    let d1 = turned_xor 16 c.args.d _ (omega arith) c.ranges.d.fits (omega arith) c.rotate_right-d1.ensures in
    let b1 = turned_xor 12 c.args.b _ (omega arith) c.ranges.b.fits (omega arith) c.rotate_right-b1.ensures in
    let d2 = turned_xor 8 c.rotate_right-d1.result _ (omega arith) c.rotate_right-d1.type_inv (omega arith) c.rotate_right-d2.ensures in
    let b2 = turned_xor 7 c.rotate_right-b1.result _ (omega arith) c.rotate_right-b1.type_inv (omega arith) c.rotate_right-b2.ensures in
    cc (sum3 c.args.a c.args.b c.args.x, sum3 _ c.rotate_right-b1.result c.args.y)
