-- `runs::given::fill` meets its contract: before each turn the bytes below j are the record's.
use mathlib.Core.Path.{refl}
use borrow.Author.Rules.{rules}
use Rattle.runs.specs.Given.{record_of}
use Rattle.runs.proofs.given.More.{record_more}
use Rattle.runs.proofs.given.fill.Goals as goal

pub loop-j-init : goal.loop-j-init
unfolding record_of
loop-j-init c = refl

pub loop-j-preserved : goal.loop-j-preserved
loop-j-preserved c = record_more c.args.i c.loop-j.j c.loop-j.out (search rules) c.loop-j.invariant
