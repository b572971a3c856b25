-- The height of n leaves, and that what is defined by a height is the same at every height that holds them.
use mathlib.Core.Path.{◌≡◌, refl, sym, ◌∙◌}
use mathlib.Core.Logic.{by_cases}
use Prim.Native.Nat.{ℕ, zero, suc, ◌-◌, ◌*◌, ◌^◌, ◌≤◌, ◌<◌}
use native.Mathlib.Nat.{le_antisymm, le_trans}
use native.Mathlib.Decide.{dec_le, dec_lt, le_ind}
use native.Mathlib.Omega.{arith}
use lib.Pow.{pow_pos, pow_mono}
use lib.Count.{count_leading_zeros, leading_length}
use borrow.Author.Tests.{le-leb, lt-leb}
use Rattle.shape.specs.Sizes.{height_in, height_of}
use Rattle.powers.proofs.Powers.{lt_pow}

holds_in : (k n : ℕ) → n ≤ 2 ^ k → n ≤ 2 ^ height_in k n
unfolding height_in
holds_in zero n p = p
holds_in (suc k) n p =
    by_cases (dec_le n (2 ^ k)) (λ a. rw (le-leb n (2 ^ k) a, height_in) (holds_in k n a)) (λ a. rw (lt-leb n (2 ^ k) (omega arith), height_in) p)

least_in : (k n h : ℕ) → n ≤ 2 ^ h → height_in k n ≤ h
unfolding height_in
least_in zero n h p = omega arith
least_in (suc k) n h p =
    by_cases (dec_le n (2 ^ k))
    (λ a. rw (le-leb n (2 ^ k) a, height_in) (least_in k n h p))
    (λ a. rw (lt-leb n (2 ^ k) (omega arith), height_in)
    (by_cases (dec_lt k h) (λ b. b) (λ b. absurd (let m : 2 ^ h ≤ 2 ^ k = pow_mono {i = h} {j = k} (omega arith) in omega arith))))

-- the height holds the leaves ..
pub height_holds : (n : ℕ) → n ≤ 2 ^ height_of n
unfolding height_of
height_holds n = holds_in n n (omega (arith, lt_pow n))

pub height_above : (n : ℕ) → n < 2 ^ suc (height_of n)
height_above n = omega (arith, height_holds n, pow_pos (height_of n))

-- .. and it is the least that does
pub height_least : (n h : ℕ) → n ≤ 2 ^ h → height_of n ≤ h
unfolding height_of
height_least n h p = least_in n n h p

pub height_zero : height_of 0 ≡ 0
height_zero = omega (arith, height_least 0 0 (omega arith))

pub height_is : (n h : ℕ) → n ≤ 2 ^ h → 2 ^ h < 2 * n → height_of n ≡ h
height_is n h p q = le_antisymm (height_least n h p) (by_cases (dec_le h (height_of n)) (λ a. a) (λ a. absurd (short (omega arith))))
  where
    short : height_of n < h → ⊥
    short a =
        let m : 2 ^ suc (height_of n) ≤ 2 ^ h = pow_mono {i = suc (height_of n)} {j = h} a in
        omega (arith, height_holds n)

-- the height by the zeros at the upper end of n - 1
pub height_leading : (w n : ℕ) → 0 < n → n ≤ 2 ^ w → w - count_leading_zeros w (n - 1) ≡ height_of n
height_leading w n p q =
    let t = leading_length w (n - 1) (omega arith) in
    let e : w - count_leading_zeros w (n - 1) ≡ t.0 = omega arith in
    e ∙ sym (height_is n t.0 (omega arith) (omega arith))

-- what does not change from a height that holds n leaves to the next is the same at all of them
pub any_height : {A : Type 0} (f : ℕ → A) (n : ℕ) → ((k : ℕ) → n ≤ 2 ^ k → f (suc k) ≡ f k)
    → (h : ℕ) → n ≤ 2 ^ h → f h ≡ f (height_of n)
any_height f n low h p =
    le_ind (λ (k : ℕ). f k ≡ f (height_of n)) refl
    (λ k l e. low k (le_trans (height_holds n) (pow_mono {i = height_of n} {j = k} l)) ∙ e) h (height_least n h p)
