-- A shift of 1 by h is 2 ^ h, which fits.
use mathlib.Core.Path.{◌≡◌, ap, ◌∙◌, subst⁻¹}
use Prim.Native.Nat.{ℕ, ◌*◌, ◌%◌, ◌^◌, ◌≤◌}
use native.Mathlib.Nat.{one-mul, mod-eq_of_lt}
use native.Mathlib.Omega.{arith}
use lib.Pow.{pow-lt, pow_mono}
use Rattle.blake.proofs.tree.power.Goals as goal

pub returns : goal.returns
returns c =
    let h = c.args.h in
    let e : (1 * 2 ^ h) % 2 ^ 64 ≡ 2 ^ h = ap (λ (x : ℕ). x % 2 ^ 64) (one-mul (2 ^ h)) ∙ mod-eq_of_lt (pow-lt {i = h} {j = 64} (omega arith)) in
    (e, subst⁻¹ (λ (x : ℕ). x ≤ 2 ^ 53) e (pow_mono {i = h} {j = 53} (omega arith)))
