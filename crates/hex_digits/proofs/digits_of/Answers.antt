-- `hex_digits::digits_of` meets its contract: before each turn the first 2i places hold the digits of the first i bytes.
use mathlib.Core.Path.{refl, ap, sym, ◌∙◌}
use Prim.Native.Nat.{◌*◌}
use lib.ListN.{length-set}
use lib.Seq.{take_all}
use borrow.Author.Rules.{rules}
use Rattle.hex_digits.specs.Hex.{hex_of}
use Rattle.hex_digits.proofs.More.{digits_more}
use Rattle.hex_digits.proofs.digits_of.Goals as goal

pub loop-i-init : goal.loop-i-init
unfolding hex_of
loop-i-init c = (refl, refl)

pub loop-i-preserved : goal.loop-i-preserved
loop-i-preserved c =
    let l = c.loop-i in
    (simp length-set l.invariant.0, digits_more c.args.bytes l.out l.i (search rules) (search rules) c.high.ensures c.low.ensures l.invariant.1)

pub returns : goal.returns
returns c =
    let l = c.loop-i in
    sym (take_all (2 * l.i) l.out (search rules)) ∙ l.invariant.1 ∙ ap hex_of (take_all l.i c.args.bytes (search rules))
