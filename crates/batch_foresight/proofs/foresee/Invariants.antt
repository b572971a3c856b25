-- What each turn of the loop of `foresee` keeps.
use Rattle.refusals.specs.Numbers.{number_in}
use Rattle.batch_foresight.proofs.Foreseen.{Foresees}
use Rattle.batch_foresight.proofs.foresee.Given as goal

abbrev pub invariant-loop-i : goal.invariant-loop-i
invariant-loop-i l = Foresees l.bytes l.room l.base l.lengths l.left (number_in l.met) l.i
