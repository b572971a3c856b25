-- The digits of one byte more.
use mathlib.Core.Path.{◌≡◌, refl, ap, ◌∙◌}
use mathlib.Core.List.{List, [], ◌∷◌, ◌++◌, append_assoc}
use Prim.Native.Nat.{ℕ, suc, ◌+◌, ◌*◌, ◌/◌, ◌%◌, ◌<◌}
use native.Mathlib.Numerals.{add-one}
use native.Mathlib.Omega.{arith}
use lib.ListN.{length, get_or, set, take, length-set}
use lib.Seq.{take-suc, take-suc-set}
use Rattle.hex_digits.specs.Hex.{digit_of, hex_of}

-- the digits of a list and of a byte after it
hex_after : (bs : List ℕ) (b : ℕ) → hex_of (bs ++ b ∷ []) ≡ hex_of bs ++ digit_of (b / 16) ∷ digit_of (b % 16) ∷ []
unfolding hex_of
hex_after [] b = refl
hex_after (a ∷ bs) b = ap (λ (l : List ℕ). digit_of (a / 16) ∷ digit_of (a % 16) ∷ l) (hex_after bs b)

-- two stores, one after the other, stand behind the first k elements
two_more : (l : List ℕ) (k a b : ℕ) → suc k < length l → take (suc (suc k)) (set (set l k a) (suc k) b) ≡ take k l ++ a ∷ b ∷ []
two_more l k a b h =
    take-suc-set (set l k a) (suc k) b (omega (arith, length-set l k a))
    ∙ ap (λ (x : List ℕ). x ++ b ∷ []) (take-suc-set l k a (omega arith))
    ∙ append_assoc (take k l) (a ∷ []) (b ∷ [])

-- where the first 2i elements of out are the digits of the first i bytes, two stores make it so for i + 1
pub digits_more : (bs out : List ℕ) (i : ℕ) {a b : ℕ} → i < length bs → 2 * i + 1 < length out
    → a ≡ digit_of (get_or bs i 0 / 16) → b ≡ digit_of (get_or bs i 0 % 16) → take (2 * i) out ≡ hex_of (take i bs)
    → take (2 * (i + 1)) (set (set out (2 * i) a) (2 * i + 1) b) ≡ hex_of (take (i + 1) bs)
digits_more bs out i {a} {b} h k ea eb e =
    let n : 2 * (i + 1) ≡ suc (suc (2 * i)) = omega arith in
    let p : 2 * i + 1 ≡ suc (2 * i) = omega arith in
    rw (n, p, add-one i, take-suc bs i 0)
    (two_more out (2 * i) a b (omega arith) ∙ cc (hex_after (take i bs) (get_or bs i 0)))
