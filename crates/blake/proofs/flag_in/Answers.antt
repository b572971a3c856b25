-- Number 0 has no flag, and any other the keyed hash's.
use mathlib.Core.Path.{sym, ap}
use Rattle.blake.specs.Modes.{flag_in}
use Rattle.blake.proofs.Modes.{flag_keyed}
use Rattle.blake.proofs.flag_in.Goals as goal

pub returns-then-keyed-eq0 : goal.returns-then-keyed-eq0
unfolding flag_in
returns-then-keyed-eq0 c = ap flag_in (sym c.if-keyed-eq0.true)

pub returns : goal.returns
returns c = flag_keyed c.args.keyed c.if-keyed-eq0.false
