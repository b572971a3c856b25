-- The test says that the counts are right.
use Rattle.std.proofs.Common.{sym}
use Rattle.parts.proofs.Answering.{is_counted}
use Rattle.parts.proofs.sound.Sound.of.Goals as goal

pub invariant_of-result : goal.invariant_of-result
invariant_of-result c = record { counts = is_counted c.args.state (sym c.in_ok-counted.ensures) }
