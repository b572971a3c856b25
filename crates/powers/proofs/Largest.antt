-- The largest power of two below a number is the one that is below where the next one is not.
use mathlib.Core.Path.{refl}
use mathlib.Core.Logic.{by_cases}
use Prim.Native.Nat.{ℕ, suc, ◌^◌, ◌≤◌, ◌<◌}
use native.Mathlib.Decide.{dec_le}
use native.Mathlib.Omega.{arith}
use lib.Pow.{pow_pos, pow_mono}
use Rattle.powers.specs.Largest.{LargestPowerBelow}

-- the next one is not below
pub largest_next : {c p : ℕ} (l : LargestPowerBelow c p) → c ≤ 2 ^ suc l.exponent
largest_next {c} {p} l =
    by_cases (dec_le c (2 ^ suc l.exponent)) (λ a. a)
    (λ a. absurd (omega (arith, l.largest (suc l.exponent) (omega arith), l.power, pow_pos l.exponent)))

-- and where it is not, it is the largest
pub largest_of : (k c : ℕ) → 2 ^ k < c → c ≤ 2 ^ suc k → LargestPowerBelow c (2 ^ k)
largest_of k c p q =
    record {
      exponent = k;
      power = refl;
      below = omega arith;
      largest = λ j l.
          by_cases (dec_le j k) (λ a. pow_mono {i = j} {j = k} a)
          (λ a. absurd (let y : 2 ^ suc k ≤ 2 ^ j = pow_mono {i = suc k} {j = j} (omega arith) in omega arith));
    }
