-- It is answered only where the size is within the limit and has room.
use native.Mathlib.Omega.{arith}
use borrow.Author.Tests.{leb-true}
use Rattle.shape.proofs.Sizes.{size_le}
use Rattle.shape.proofs.Counting.{size_known}
use Rattle.batch_foresight.proofs.ample.Goals as goal

pub overflow_mul-result : goal.overflow_mul-result
overflow_mul-result c = omega (arith, size_le c.args.m, size_known c.args.m c.size_of.ensures c.in-Ok.is)

pub returns-in-Ok : goal.returns-in-Ok
returns-in-Ok c t =
    let k = size_known c.args.m c.size_of.ensures c.in-Ok.is in
    record { few = k.0; fits = omega (arith, leb-true _ _ t) }
