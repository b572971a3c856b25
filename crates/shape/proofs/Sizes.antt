-- Laws of sizes: 2n minus the ones in n.
use mathlib.Core.Path.{◌≡◌, sym, ap, ◌∙◌}
use mathlib.Core.Logic.{by_cases}
use Prim.Native.Nat.{ℕ, suc, ◌+◌, ◌-◌, ◌*◌, ◌^◌, ◌≤◌, ◌<◌}
use native.Mathlib.Nat.{zero-lt-suc, one-mul}
use native.Mathlib.Decide.{dec_lt, le_ind}
use native.Mathlib.Omega.{arith}
use lib.Arith.{bin_ind}
use lib.Pow.{pow_pos}
use lib.Count.{ones, ones_step, ones_cat, ones-ones, ones-le}
use borrow.Author.Tests.{le-leb, lt-leb, lt-ltb, le-ltb}
use Rattle.shape.specs.Answers.{done, refused}
use Rattle.shape.specs.Sizes.{size_of, size_answer, position_answer, hash_count}
use Rattle.shape.proofs.Trailing.{ones_top, carry}

-- a number has no more ones than it counts
pub ones_few : (n : ℕ) → ones n ≤ n
ones_few = bin_ind (λ (n : ℕ). ones n ≤ n) (ones-le 0 0 (zero-lt-suc 0)) (λ n h. omega (arith, ones_step n))

pub size_ones : (n : ℕ) → size_of n + ones n ≡ 2 * n
unfolding size_of
size_ones n = omega (arith, ones_few n)

pub size_zero : size_of 0 ≡ 0
size_zero = omega (arith, size_ones 0)

pub size_ge : (n : ℕ) → n ≤ size_of n
size_ge n = omega (arith, size_ones n, ones_few n)

pub size_le : (n : ℕ) → size_of n ≤ 2 * n
size_le n = omega (arith, size_ones n)

-- leaves in whole blocks of 2^k, and c more: the nodes of the c stand behind the others
pub size_add : (k q c : ℕ) → c < 2 ^ k → size_of (q * 2 ^ k + c) ≡ size_of (q * 2 ^ k) + size_of c
size_add k q c p =
    let e : ones (q * 2 ^ k) ≡ ones (q * 2 ^ k + 0) = ap ones (omega arith) in
    omega (arith, size_ones (q * 2 ^ k + c), size_ones (q * 2 ^ k), size_ones c, ones_cat k q c p, ones_cat k q 0 (pow_pos k), ones-ones 0)

-- a peak of height k has 2^(k+1) - 1 nodes ..
pub size_power : (k : ℕ) → size_of (2 ^ k) ≡ 2 ^ suc k - 1
size_power k =
    let e : ones (2 ^ k) ≡ ones (2 ^ k + 0) = ap ones (omega arith) in
    omega (arith, size_ones (2 ^ k), ones_top k 0 (pow_pos k), ones-ones 0)

-- .. and fewer leaves to its right have theirs behind it
pub size_peak : (k c : ℕ) → c < 2 ^ k → size_of (2 ^ k + c) ≡ 2 ^ suc k - 1 + size_of c
size_peak k c p =
    ap (λ (x : ℕ). size_of (x + c)) (sym (one-mul (2 ^ k))) ∙ size_add k 1 c p
    ∙ ap (λ (x : ℕ). size_of x + size_of c) (one-mul (2 ^ k)) ∙ ap (λ (x : ℕ). x + size_of c) (size_power k)

-- RULES 7.3: new size minus old size is 1 + trailing ones, the hash count
pub size_suc : (n : ℕ) → size_of (suc n) ≡ size_of n + hash_count n
size_suc n = omega (arith, size_ones n, size_ones (suc n), carry n)

-- sizes grow, so a size has one leaf count
pub size_lt : (a b : ℕ) → a < b → size_of a < size_of b
size_lt a b p =
    le_ind (λ (m : ℕ). size_of a < size_of m) (omega (arith, size_suc a)) (λ m l g. omega (arith, size_suc m)) b p

pub size_mono : (a b : ℕ) → a ≤ b → size_of a ≤ size_of b
size_mono a b p =
    by_cases (dec_lt a b) (λ l. omega (arith, size_lt a b l)) (λ l. let e : a ≡ b = omega arith in rw e (omega arith))

pub size_inj : (a b : ℕ) → size_of a ≡ size_of b → a ≡ b
size_inj a b e =
    by_cases (dec_lt a b) (λ l. absurd (omega (arith, size_lt a b l)))
    (λ l. by_cases (dec_lt b a) (λ m. absurd (omega (arith, size_lt b a m))) (λ m. omega arith))

-- the two sides of a fork: n leaves, above 2^k and at most 2^(k+1), 2^k of them to the left
pub size_split : (k n : ℕ) → 2 ^ k < n → n ≤ 2 ^ suc k → 2 ^ suc k - 1 + size_of (n - 2 ^ k) ≤ size_of n
size_split k n p q =
    let e : 2 ^ k + (n - 2 ^ k) ≡ n = omega arith in
    by_cases (dec_lt (n - 2 ^ k) (2 ^ k)) (λ l. omega (arith, size_peak k (n - 2 ^ k) l, ap size_of e))
    (λ l.
    let f : n - 2 ^ k ≡ 2 ^ k = omega arith in
    let g : n ≡ 2 ^ suc k = omega arith in
    rw f (rw g (omega (arith, size_power k, size_power (suc k)))))

-- the answers, within the limits and beyond
pub size_answer_lem : (n : ℕ) → n ≤ 2 ^ 32 → size_answer n ≡ done (size_of n)
unfolding size_answer
size_answer_lem n p = rw (le-leb n (2 ^ 32) p, size_answer)

pub size_refused : (n : ℕ) → 2 ^ 32 < n → size_answer n ≡ refused 2
unfolding size_answer
size_refused n p = rw (lt-leb n (2 ^ 32) p, size_answer)

pub position_answer_lem : (i : ℕ) → i < 2 ^ 32 → position_answer i ≡ done (size_of i)
unfolding position_answer
position_answer_lem i p = rw (lt-ltb i (2 ^ 32) p, position_answer)

pub position_refused : (i : ℕ) → 2 ^ 32 ≤ i → position_answer i ≡ refused 5
unfolding position_answer
position_refused i p = rw (le-ltb i (2 ^ 32) p, position_answer)
