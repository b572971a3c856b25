-- Words: a turn by shifts, and a sum of three wrapped after each step.
use Rattle.std.proofs.Common.{◌≡◌, ℕ, ◌+◌, ◌-◌, ◌*◌, ◌/◌, ◌%◌, ◌^◌, ◌<◌, sym, ap, ◌∙◌, subst, add-zero, arith, shr_lt}
use native.Mathlib.Nat.{mul-mod_left, mod-add-mod}
use lib.Bits.{bit_or, bit_xor, or_shifted_r, xor_lt}
use lib.Pow.{mod-pow-add, shl-shr}
use Rattle.compression.specs.Compression.{turn_right}

-- the j low digits shifted out at the top of j + k are the k low digits of what was shifted
kept : (x j k : ℕ) → (x * 2 ^ j) % 2 ^ (k + j) ≡ x % 2 ^ k * 2 ^ j
kept x j k =
    mod-pow-add (x * 2 ^ j) k j
    ∙ ap (λ (y : ℕ). y % 2 ^ k * 2 ^ j + x * 2 ^ j % 2 ^ j) (shl-shr x j)
    ∙ ap (λ (y : ℕ). x % 2 ^ k * 2 ^ j + y) (mul-mod_left x (2 ^ j))
    ∙ add-zero (x % 2 ^ k * 2 ^ j)

turned : (x k : ℕ) → k < 32 → x < 2 ^ 32 → bit_or (x / 2 ^ k) ((x * 2 ^ (32 - k)) % 2 ^ 32) ≡ turn_right x k
unfolding turn_right
turned x k hk hx =
    let e : k + (32 - k) ≡ 32 = omega arith in
    let e' : (32 - k) + k ≡ 32 = omega arith in
    ap (bit_or (x / 2 ^ k)) (ap (λ (w : ℕ). (x * 2 ^ (32 - k)) % 2 ^ w) (sym e) ∙ kept x (32 - k) k)
    ∙ or_shifted_r (x % 2 ^ k) (32 - k) (x / 2 ^ k) (shr_lt (32 - k) k (subst (λ (w : ℕ). x < 2 ^ w) (sym e') hx))

-- the exclusive or of two words, turned
pub turned_xor : (k x y : ℕ) {r : ℕ} → k < 32 → x < 2 ^ 32 → y < 2 ^ 32
    → r ≡ bit_or (bit_xor x y / 2 ^ k) ((bit_xor x y * 2 ^ (32 - k)) % 2 ^ 32) → r ≡ turn_right (bit_xor x y) k
turned_xor k x y hk hx hy e = e ∙ turned (bit_xor x y) k hk (xor_lt 32 x y hx hy)

-- a sum of three, wrapped after each step
pub sum3 : (p q x : ℕ) → ((p + q) % 2 ^ 32 + x) % 2 ^ 32 ≡ (p + q + x) % 2 ^ 32
sum3 p q x = mod-add-mod (p + q) (2 ^ 32) x
