-- Laws of numbers as bytes: what is written is read back and what is read is written back, at every width.
use mathlib.Core.Path.{◌≡◌, refl, ap, ap₂, ◌∙◌}
use mathlib.Core.List.{List, [], ◌∷◌, ◌++◌}
use Prim.Native.Nat.{ℕ, zero, suc, ◌+◌, ◌*◌, ◌/◌, ◌%◌, ◌^◌, ◌<◌}
use native.Mathlib.Nat.{pow-suc, mul_assoc, mul_comm, add-mul}
use native.Mathlib.Omega.{arith}
use lib.Arith.{digits_lt}
use lib.Pow.{pow-add}
use lib.ListN.{length, length-append}
use Rattle.wire.specs.Numbers.{be, number, Bytes}

pub be_length : (k n : ℕ) → length (be k n) ≡ k
unfolding be
be_length zero n = refl
be_length (suc k) n = rw (length-append, be_length k (n / 256)) (omega arith)

-- two runs in a row: the first counts by the length of the second
pub number_append : (xs ys : List ℕ) → number (xs ++ ys) ≡ number xs * 256 ^ length ys + number ys
unfolding number
number_append [] ys = omega arith
number_append (x ∷ xs) ys =
    let p : ℕ = 256 ^ length xs in
    let q : ℕ = 256 ^ length ys in
    let e : 256 ^ length (xs ++ ys) ≡ p * q = rw (length-append, pow-add 256 (length xs) (length ys)) in
    ap₂ (λ (a b : ℕ). x * a + b) e (number_append xs ys) ∙ omega (arith, add-mul (x * p) (number xs) q, mul_assoc x p q)

pub number_snoc : (bs : List ℕ) (b : ℕ) → number (bs ++ (b ∷ [])) ≡ number bs * 256 + b
unfolding number
number_snoc bs b = number_append bs (b ∷ []) ∙ omega arith

-- what was written is read back
pub number_be : (k n : ℕ) → n < 256 ^ k → number (be k n) ≡ n
unfolding be number
number_be zero n h = omega arith
number_be (suc k) n h =
    let p : 256 ^ suc k ≡ 256 ^ k * 256 = pow-suc 256 k in
    number_snoc (be k (n / 256)) (n % 256) ∙ omega (arith, number_be k (n / 256) (omega arith))

-- k bytes are below 256 ^ k
pub number_below : (bs : List ℕ) → Bytes bs → number bs < 256 ^ length bs
unfolding number
number_below [] h = omega arith
number_below (b ∷ bs) h =
    rw (pow-suc 256 (length bs), mul_comm (256 ^ length bs) 256) (digits_lt (h 0) (number_below bs (λ i. h (suc i))))

be_cons : (k b n : ℕ) → b < 256 → n < 256 ^ k → be (suc k) (b * 256 ^ k + n) ≡ b ∷ be k n
unfolding be
be_cons zero b n h l = ap (λ (x : ℕ). x ∷ []) (omega arith)
be_cons (suc k) b n h l =
    let p : b * 256 ^ suc k ≡ b * 256 ^ k * 256 = rw (pow-suc 256 k, mul_assoc) in
    let q : (b * 256 ^ suc k + n) / 256 ≡ b * 256 ^ k + n / 256 = omega arith in
    let r : (b * 256 ^ suc k + n) % 256 ≡ n % 256 = omega arith in
    rw (q, r, be_cons k b (n / 256) h (omega (arith, pow-suc 256 k)))

-- what was read is written back
pub be_number : (bs : List ℕ) → Bytes bs → be (length bs) (number bs) ≡ bs
unfolding number be
be_number [] h = refl
be_number (b ∷ bs) h =
    let e : Bytes bs = λ i. h (suc i) in
    be_cons (length bs) b (number bs) (h 0) (number_below bs e) ∙ ap (λ (l : List ℕ). b ∷ l) (be_number bs e)
