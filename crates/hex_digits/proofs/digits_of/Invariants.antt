-- What each turn of the loop of `digits_of` keeps.
use mathlib.Core.Path.{◌≡◌}
use Prim.Native.Nat.{◌*◌}
use lib.ListN.{length, take}
use Rattle.hex_digits.specs.Hex.{hex_of}
use Rattle.hex_digits.proofs.digits_of.Given as goal

abbrev pub invariant-loop-i : goal.invariant-loop-i
invariant-loop-i l = (length l.out ≡ 64) × (take (2 * l.i) l.out ≡ hex_of (take l.i l.b-items))
