-- Trailing ones: how they relate the ones of n and of n + 1, and how the code counts them.
use mathlib.Core.Path.{◌≡◌, refl, sym, ap, ◌∙◌}
use mathlib.Core.Logic.{by_cases}
use Prim.Native.Nat.{ℕ, zero, suc, ◌+◌, ◌-◌, ◌/◌, ◌%◌, ◌^◌, ◌≤◌, ◌<◌}
use native.Mathlib.Nat.{one-mul}
use native.Mathlib.Decide.{dec_le}
use native.Mathlib.Omega.{arith}
use lib.Pow.{pow_pos, pow-lt}
use lib.Count.{ones, ones_step, ones_cat, ones-ones, count_trailing_zeros, under}
use Rattle.shape.specs.Sizes.{trailing_in, trailing_ones}
use Rattle.powers.proofs.Powers.{lt_pow}

-- the ones of a number whose top digit is at h
pub ones_top : (h m : ℕ) → m < 2 ^ h → ones (2 ^ h + m) ≡ suc (ones m)
ones_top h m p = ap (λ (x : ℕ). ones (x + m)) (sym (one-mul (2 ^ h))) ∙ ones_cat h 1 m p ∙ omega (arith, ones-ones 1)

trailing_even : (k n : ℕ) → n % 2 ≡ 0 → trailing_in (suc k) n ≡ 0
unfolding trailing_in
trailing_even k n e = rw (e, trailing_in)

trailing_odd : (k n : ℕ) → n % 2 ≡ 1 → trailing_in (suc k) n ≡ suc (trailing_in k (n / 2))
unfolding trailing_in
trailing_odd k n e = rw (e, trailing_in)

-- one more turns the trailing ones into a single one
carry_in : (k n : ℕ) → n < 2 ^ k → ones (suc n) + trailing_in k n ≡ suc (ones n)
unfolding trailing_in
carry_in zero n p =
    let z : n ≡ 0 = omega arith in
    rw z (omega (arith, ones-ones 0, ones-ones 1))
carry_in (suc k) n p =
    by_cases (dec_le (n % 2) 0)
    (λ e.
    let a : ones (suc n / 2) ≡ ones (n / 2) = ap ones (omega arith) in
    rw (trailing_even k n (omega arith)) (omega (arith, ones_step n, ones_step (suc n))))
    (λ e.
    let a : ones (suc n / 2) ≡ ones (suc (n / 2)) = ap ones (omega arith) in
    rw (trailing_odd k n (omega arith)) (omega (arith, ones_step n, ones_step (suc n), carry_in k (n / 2) (omega arith))))

pub carry : (n : ℕ) → ones (suc n) + trailing_ones n ≡ suc (ones n)
unfolding trailing_ones
carry n = carry_in n n (lt_pow n)

-- a digit above those that are all ones does not matter ..
pub trailing_top : (h m : ℕ) → suc m < 2 ^ h → trailing_ones (2 ^ h + m) ≡ trailing_ones m
trailing_top h m p =
    let e : ones (suc (2 ^ h + m)) ≡ ones (2 ^ h + suc m) = ap ones (omega arith) in
    omega (arith, carry m, carry (2 ^ h + m), ones_top h m (omega arith), ones_top h (suc m) p)

-- .. and h ones are h trailing ones
pub trailing_full : (h n : ℕ) → suc n ≡ 2 ^ h → trailing_ones n ≡ h
trailing_full h n e =
    let a : ones n ≡ h = ap ones (omega arith) ∙ ones-ones h in
    let b : ones (suc n) ≡ ones (2 ^ h + 0) = ap ones (omega arith) in
    omega (arith, carry n, ones_top h 0 (pow_pos h), ones-ones 0)

-- a number with t trailing ones is at least 2^t - 1
pow_in : (k n : ℕ) → 2 ^ trailing_in k n ≤ suc n
unfolding trailing_in
pow_in zero n = omega arith
pow_in (suc k) n =
    by_cases (dec_le (n % 2) 0)
    (λ e. rw (trailing_even k n (omega arith)) (omega arith))
    (λ e. rw (trailing_odd k n (omega arith)) (omega (arith, pow_in k (n / 2))))

pub trailing_pow : (n : ℕ) → 2 ^ trailing_ones n ≤ suc n
unfolding trailing_ones
trailing_pow n = pow_in n n

pub trailing_most : (h n : ℕ) → n < 2 ^ h → trailing_ones n ≤ h
trailing_most h n p =
    by_cases (dec_le (trailing_ones n) h) (λ a. a)
    (λ a. absurd (let m : 2 ^ h < 2 ^ trailing_ones n = pow-lt {i = h} {j = trailing_ones n} (omega arith) in omega (arith, trailing_pow n)))

-- the trailing zeros of the complement
flip : (d t u : ℕ) → d < 2 → t ≡ u → under (1 - d) t ≡ elim d [ zero ↦ zero | suc e ↦ suc u ]
flip zero t u p e = refl
flip (suc zero) t u p e = ap suc e
flip (suc (suc d)) t u p e = absurd (omega arith)

complement_in : (k n : ℕ) → n < 2 ^ k → count_trailing_zeros k (2 ^ k - 1 - n) ≡ trailing_in k n
unfolding count_trailing_zeros trailing_in
complement_in zero n p = refl
complement_in (suc k) n p =
    let lo : (2 ^ suc k - 1 - n) % 2 ≡ 1 - n % 2 = omega arith in
    let hi : (2 ^ suc k - 1 - n) / 2 ≡ 2 ^ k - 1 - n / 2 = omega arith in
    rw (lo, hi) (flip (n % 2) _ _ (omega arith) (complement_in k (n / 2) (omega arith)))

pub trailing_complement : (w n : ℕ) → n < 2 ^ w → count_trailing_zeros w (2 ^ w - 1 - n) ≡ trailing_ones n
trailing_complement w n p = complement_in w n p ∙ omega (arith, carry n, carry_in w n p)
