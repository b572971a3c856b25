-- What is broken or differs at a fork or below it.
use mathlib.Core.Path.{◌≡◌, refl, sym}
use mathlib.Core.List.{List}
use Prim.Native.Nat.{ℕ}
use Rattle.std.specs.Prelude.{Bool, true, false, ◌||◌, Option, None, Some}
use Rattle.std.specs.Option.{option_or}
use Rattle.inputs.specs.declared.Unequal.{Unequal}
use Rattle.wire.specs.Slices.{bit, differ}
use Rattle.wire.proofs.Differences.{differ_same, differ_other}
use Rattle.shape.specs.Difference.{decided, Diff}
use Rattle.shape.specs.Seen.{either}
use Rattle.views.specs.Compared.{or_else, apart}
use Rattle.views.proofs.Compare.{apart_same, apart_other}
use Rattle.inputs.specs.Inputs.{above, told}

-- broken here or below
pub either_any : (a b c : Bool) {k : ℕ} → bit a ≡ k → bit ((a || b) || c) ≡ either k (either (bit b) (bit c))
either_any true b c e = rw (sym e) refl
either_any false true c e = rw (sym e) refl
either_any false false true e = rw (sym e) refl
either_any false false false e = rw (sym e) refl

-- the first of two differences, as they are told
pub told_or : (a b : Option Unequal) → told (option_or a b) ≡ or_else (told a) (told b)
told_or None b = refl
told_or (Some u) b = refl

-- two inputs that differ come before what is below
pub above_or : (a b : List ℕ) (d : Diff) → above (differ a b) a b d ≡ or_else (apart a b) d
above_or a b d = elim (decided a b) [
  | yes e ↦ rw (differ_same a b e, apart_same a b e)
  | no e ↦ rw (differ_other a b e, apart_other a b e)
]
