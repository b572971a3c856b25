-- The peaks of a log: one for each one-bit, and how they go by the two sides of a fork.
use mathlib.Core.Path.{◌≡◌, refl, sym, ap, ◌∙◌}
use mathlib.Core.Logic.{by_cases}
use mathlib.Core.List.{List, [], ◌∷◌}
use Prim.Native.Nat.{ℕ, zero, suc, ◌+◌, ◌-◌, ◌^◌, ◌≤◌, ◌<◌}
use native.Mathlib.Decide.{dec_lt}
use native.Mathlib.Omega.{arith}
use lib.ListN.{length}
use lib.Pow.{pow_pos}
use lib.Count.{ones, ones-ones}
use borrow.Author.Tests.{le-leb, lt-leb}
use Rattle.shape.specs.Sizes.{height_of}
use Rattle.shape.specs.Positions.{top, behind, peaks_in, peaks}
use Rattle.shape.proofs.Heights.{height_above, any_height}
use Rattle.shape.proofs.Trailing.{ones_top}

pub peaks_skip : (k n s : ℕ) → n < 2 ^ k → peaks_in (suc k) n s ≡ peaks_in k n s
unfolding peaks_in
peaks_skip k n s p = rw (lt-leb (2 ^ k) n p, peaks_in)

pub peaks_take : (k n s : ℕ) → 2 ^ k ≤ n → peaks_in (suc k) n s ≡ top k s ∷ peaks_in k (n - 2 ^ k) (behind k s)
unfolding peaks_in
peaks_take k n s p = rw (le-leb (2 ^ k) n p, peaks_in)

pub peaks_none : (k s : ℕ) → peaks_in k 0 s ≡ []
unfolding peaks_in
peaks_none zero s = refl
peaks_none (suc k) s = peaks_skip k 0 s (pow_pos k) ∙ peaks_none k s

pub peaks_low : (h n s : ℕ) → n ≤ 2 ^ h → peaks_in (suc (suc h)) n s ≡ peaks_in (suc h) n s
peaks_low h n s p = peaks_skip (suc h) n s (omega (arith, pow_pos h))

pub peaks_any : (h n s : ℕ) → n ≤ 2 ^ h → peaks_in (suc h) n s ≡ peaks_in (suc (height_of n)) n s
peaks_any h n s p = any_height (λ (k : ℕ). peaks_in (suc k) n s) n (λ k q. peaks_low k n s q) h p

-- one peak is all
pub peaks_full : (h n s : ℕ) → n ≡ 2 ^ h → peaks_in (suc h) n s ≡ top h s ∷ []
peaks_full h n s e =
    let z : n - 2 ^ h ≡ 0 = omega arith in
    peaks_take h n s (omega arith) ∙ rw (z, peaks_none h (behind h s))

-- more than one: the tallest first, then those of the rest
pub peaks_more : (h n s : ℕ) → 2 ^ h < n → n < 2 ^ suc h
    → peaks_in (suc (suc h)) n s ≡ top h s ∷ peaks_in (suc h) (n - 2 ^ h) (behind h s)
peaks_more h n s p q =
    peaks_skip (suc h) n s q ∙ peaks_take h n s (omega arith)
    ∙ ap {B = List ℕ} (λ r. top h s ∷ r) (sym (peaks_skip h (n - 2 ^ h) (behind h s) (omega arith)))

ones_in : (k n s : ℕ) → n < 2 ^ k → length (peaks_in k n s) ≡ ones n
unfolding peaks_in
ones_in zero n s p = let z : n ≡ 0 = omega arith in sym (ap ones z ∙ ones-ones 0)
ones_in (suc k) n s p =
    by_cases (dec_lt n (2 ^ k))
    (λ a. rw (peaks_skip k n s a) (ones_in k n s a))
    (λ a.
    let e : 2 ^ k + (n - 2 ^ k) ≡ n = omega arith in
    let b : n - 2 ^ k < 2 ^ k = omega arith in
    rw (peaks_take k n s (omega arith))
    (ap suc (ones_in k (n - 2 ^ k) (behind k s) b) ∙ sym (ap ones (sym e) ∙ ones_top k (n - 2 ^ k) b)))

-- RULES 6.4: one peak for each one-bit of n
pub peaks_ones : (n : ℕ) → length (peaks n) ≡ ones n
unfolding peaks
peaks_ones n = ones_in (suc (height_of n)) n 0 (height_above n)

pub peaks_some : (k n s : ℕ) → 0 < n → n < 2 ^ k → 0 < length (peaks_in k n s)
unfolding peaks_in
peaks_some zero n s p q = absurd (omega arith)
peaks_some (suc k) n s p q =
    by_cases (dec_lt n (2 ^ k))
    (λ a. rw (peaks_skip k n s a) (peaks_some k n s p a))
    (λ a. rw (peaks_take k n s (omega arith)) (omega arith))
