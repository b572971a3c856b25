-- What a test says of its two numbers where it does not apply.
use mathlib.Core.Path.{◌≡◌, refl}
use mathlib.Core.Bool.{Bool, true, false}
use Prim.Native.Nat.{◌<◌, ◌≤◌}
use borrow.Author.Tests.{le-ltb, lt-leb, eq-eqb, ne_eqb, ltb-false, leb-false, eqb-true, eqb-false, not-false}
use lib.Dec.{eqb}
use Rattle.order.specs.Order.{Test, ◌under◌, ◌above◌, ◌not_below◌, ◌is◌, ◌is_not◌, applies}

abbrev pub Fails : Test → Type 0
Fails (a under b) = b ≤ a
Fails (a above b) = a ≤ b
Fails (a not_below b) = a < b
Fails (a is b) = a ≡ b → ⊥
Fails (a is_not b) = a ≡ b

pub false_of : (t : Test) → Fails t → applies t ≡ false
false_of (a under b) h = le-ltb a b h
false_of (a above b) h = le-ltb b a h
false_of (a not_below b) h = lt-leb b a h
false_of (a is b) h = ne_eqb a b h
false_of (a is_not b) h = rw (eq-eqb a b h)

pub fails_of : (t : Test) → applies t ≡ false → Fails t
fails_of (a under b) e = ltb-false a b e
fails_of (a above b) e = ltb-false b a e
fails_of (a not_below b) e = leb-false b a e
fails_of (a is b) e = eqb-false a b e
fails_of (a is_not b) e = eqb-true a b (not-false (eqb a b) e)

pub by_test : {P : Type 0} (t : Test) → (applies t ≡ true → P) → (applies t ≡ false → P) → P
by_test {P} t y n = go (applies t) refl
  where
    go : (b : Bool) → applies t ≡ b → P
    go true e = y e
    go false e = n e
