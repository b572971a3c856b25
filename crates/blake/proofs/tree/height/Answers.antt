-- The height by the leading zeros of the number of whole chunks before the last.
use lib.Count.{leading_le}
use Rattle.blake.proofs.tree.Rooms.{high_enough}
use Rattle.blake.proofs.tree.height.Goals as goal

pub overflow_sub-result-else-len-le1024 : goal.overflow_sub-result-else-len-le1024
overflow_sub-result-else-len-le1024 c = leading_le 64 _

pub returns-else-len-le1024 : goal.returns-else-len-le1024
returns-else-len-le1024 c = high_enough c.args.len c.if-len-le1024.false c.ranges.len.fits
