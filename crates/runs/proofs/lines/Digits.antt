-- The fewest decimal digits that hold a number are those that are counted, and those of a number of 64 bits are at most 20.
use mathlib.Core.Path.{◌≡◌, refl, ap}
use Prim.Native.Nat.{ℕ, zero, suc, ◌-◌, ◌/◌, ◌^◌, ◌≤◌, ◌<◌}
use native.Mathlib.Decide.{dec_lt}
use native.Mathlib.Nat.{pow-suc, one-le-pow, pow-le-pow_right}
use native.Mathlib.Omega.{arith}
use borrow.Author.Tests.{lt-ltb, le-ltb}
use Rattle.io.specs.Digits.{IsDigitCount}
use Rattle.runs.specs.Lines.{digits_up_to}

-- with two digits or more, all but one of them hold no more than n
held : (n q : ℕ) → IsDigitCount 10 1 n (suc (suc q)) → 10 ^ suc q ≤ n
held n q f = let e : suc (suc q) - 1 ≡ suc q = omega arith in rw e at (f.2 (omega arith))

-- below 10 there is one
one_digit : (n r : ℕ) → n < 10 → IsDigitCount 10 1 n r → r ≡ 1
one_digit n zero h f = omega arith
one_digit n (suc zero) h f = refl
one_digit n (suc (suc q)) h f =
    let l = held n q f in
    let p : 1 ≤ 10 ^ q = one-le-pow q 10 (omega arith) in
    omega (arith, pow-suc 10 q)

-- from 10 on there is one more than n / 10 has
one_less : (n q : ℕ) → 10 ≤ n → IsDigitCount 10 1 n (suc q) → IsDigitCount 10 1 (n / 10) q
one_less n zero h f = omega arith
one_less n (suc q) h f =
    let l = held n q f in
    let e : suc q - 1 ≡ q = omega arith in
    (omega arith, omega (arith, pow-suc 10 (suc q)), λ m. rw e (omega (arith, pow-suc 10 q)))

pub fewest_counted : (k n r : ℕ) → IsDigitCount 10 1 n r → r ≤ k → r ≡ digits_up_to k n
unfolding digits_up_to
fewest_counted zero n r f l = omega arith
fewest_counted (suc k) n zero f l = omega arith
fewest_counted (suc k) n (suc q) f l = elim (dec_lt n 10) [
  | yes h ↦ rw (lt-ltb n 10 h, digits_up_to) (one_digit n (suc q) h f)
  | no h ↦
      let m : 10 ≤ n = omega arith in
      rw (le-ltb n 10 m, digits_up_to) (ap suc (fewest_counted k (n / 10) q (one_less n q m f) (omega arith)))
]

pub at_most : (n r : ℕ) → n < 2 ^ 64 → IsDigitCount 10 1 n r → r ≤ 20
at_most n r h f = elim (dec_lt 20 r) [
  | yes l ↦
      let k : 20 ≤ r - 1 = omega arith in
      let m : 10 ^ (r - 1) ≤ n = f.2 (omega arith) in
      let p : 10 ^ 20 ≤ 10 ^ (r - 1) = pow-le-pow_right (omega arith) k in
      omega arith
  | no l ↦ omega arith
]
