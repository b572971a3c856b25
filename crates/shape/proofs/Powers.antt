-- Powers of two: every number is below one, what `power` answers, and half the leaves of a height.
use mathlib.Core.Path.{◌≡◌, ap, ◌∙◌}
use Prim.Native.Nat.{ℕ, suc, ◌-◌, ◌*◌, ◌%◌, ◌^◌, ◌≤◌, ◌<◌}
use native.Mathlib.Nat.{mod-eq_of_lt, pow-suc}
use native.Mathlib.Omega.{arith}
use lib.Arith.{digits_mod}
use lib.Pow.{pow_pos, pow-add, pow-lt}

-- below the width a power of two is itself ..
pub power_small : (w h : ℕ) → h < w → 2 ^ h % 2 ^ w ≡ 2 ^ h
power_small w h p = mod-eq_of_lt (pow-lt p)

-- .. and from the width on it is 0
pub power_large : (w h : ℕ) → w ≤ h → 2 ^ h % 2 ^ w ≡ 0
power_large w h p =
    let e : 2 ^ h ≡ 2 ^ (h - w) * 2 ^ w = ap (λ (x : ℕ). 2 ^ x) (omega arith) ∙ pow-add 2 (h - w) w in
    ap (λ (x : ℕ). x % 2 ^ w) (omega arith) ∙ digits_mod (2 ^ (h - w)) (pow_pos w)

-- a height above 0, and `half`, which is `power` of the height below
pub record Halved (h half : ℕ) : Type 0 where
  pub below : h ≡ suc (h - 1)
  pub is : half ≡ 2 ^ (h - 1)
  pub some : 0 < half
  pub double : 2 ^ suc (h - 1) ≡ 2 * half
  pub whole : 2 ^ h ≡ 2 * half

pub halved : (h half : ℕ) → 0 < h → h ≤ 64 → half ≡ 2 ^ (h - 1) % 2 ^ 64 → Halved h half
halved h half some low e =
    let b : h ≡ suc (h - 1) = omega (arith, some) in
    let i : half ≡ 2 ^ (h - 1) = e ∙ power_small 64 (h - 1) (omega (arith, some, low)) in
    let d : 2 ^ suc (h - 1) ≡ 2 * half = omega (arith, pow-suc 2 (h - 1), i) in
    record { below = b; is = i; some = omega (arith, i, pow_pos (h - 1)); double = d; whole = ap (λ (k : ℕ). 2 ^ k) b ∙ d }
