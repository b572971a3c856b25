-- The positions of a letter's items: how they go by the two sides of a fork.
use mathlib.Core.Path.{◌≡◌, refl, sym, ap, ◌∙◌}
use mathlib.Core.Logic.{by_cases}
use mathlib.Core.List.{List, [], ◌∷◌, ◌++◌, append-nil}
use Prim.Native.Nat.{ℕ, suc, ◌-◌, ◌^◌, ◌≤◌, ◌<◌}
use native.Mathlib.Decide.{dec_lt}
use native.Mathlib.Omega.{arith}
use lib.ListN.{length}
use lib.Pow.{pow_pos}
use borrow.Author.Tests.{le-leb, lt-leb, lt-ltb, le-ltb}
use Rattle.shape.specs.Positions.{top, behind, peaks_in, alone, siblings, to_the_right, positions_in}
use Rattle.shape.proofs.Peaks.{peaks_skip, peaks_none, peaks_full, peaks_some}

right_all : (ps : List ℕ) → 0 < length ps → to_the_right ps ≡ ps ∷ []
right_all [] p = absurd (omega arith)
right_all (p ∷ ps) q = refl

siblings_left : (h i s : ℕ) → i < 2 ^ h → siblings (suc h) i s ≡ siblings h i s ++ (alone (top h (behind h s)) ∷ [])
unfolding siblings
siblings_left h i s p = rw (lt-ltb i (2 ^ h) p, siblings)

siblings_right : (h i s : ℕ) → 2 ^ h ≤ i → siblings (suc h) i s ≡ siblings h (i - 2 ^ h) (behind h s) ++ (alone (top h s) ∷ [])
unfolding siblings
siblings_right h i s p = rw (le-ltb i (2 ^ h) p, siblings)

positions_skip : (k n i s : ℕ) → n < 2 ^ k → positions_in (suc k) n i s ≡ positions_in k n i s
unfolding positions_in
positions_skip k n i s p = rw (lt-leb (2 ^ k) n p, positions_in)

positions_here : (k n i s : ℕ) → 2 ^ k ≤ n → i < 2 ^ k
    → positions_in (suc k) n i s ≡ siblings k i s ++ to_the_right (peaks_in k (n - 2 ^ k) (behind k s))
unfolding positions_in
positions_here k n i s p q = rw (le-leb (2 ^ k) n p, positions_in, lt-ltb i (2 ^ k) q)

positions_pass : (k n i s : ℕ) → 2 ^ k ≤ n → 2 ^ k ≤ i
    → positions_in (suc k) n i s ≡ alone (top k s) ∷ positions_in k (n - 2 ^ k) (i - 2 ^ k) (behind k s)
unfolding positions_in
positions_pass k n i s p q = rw (le-leb (2 ^ k) n p, positions_in, le-ltb i (2 ^ k) q)

-- within one peak there are siblings alone
positions_full : (h n i s : ℕ) → n ≡ 2 ^ h → i < n → positions_in (suc h) n i s ≡ siblings h i s
positions_full h n i s e p =
    let z : n - 2 ^ h ≡ 0 = omega arith in
    positions_here h n i s (omega arith) (omega arith) ∙ rw (z, peaks_none h (behind h s)) (append-nil (siblings h i s))

-- one leaf has no items
pub positions_one : (n i s : ℕ) → n ≤ 1 → i < n → positions_in 1 n i s ≡ []
unfolding siblings
positions_one n i s p q = positions_full 0 n i s (omega arith) q

pub positions_low : (h n i s : ℕ) → n ≤ 2 ^ h → positions_in (suc (suc h)) n i s ≡ positions_in (suc h) n i s
positions_low h n i s p = positions_skip (suc h) n i s (omega (arith, pow_pos h))

-- to the left: the items of the left side, then the right side folded
pub positions_left : (h n i s : ℕ) → 2 ^ h < n → n ≤ 2 ^ suc h → i < 2 ^ h
    → positions_in (suc (suc h)) n i s ≡ positions_in (suc h) (2 ^ h) i s ++ (peaks_in (suc h) (n - 2 ^ h) (behind h s) ∷ [])
positions_left h n i s p q l =
    let some : 0 < length (peaks_in (suc h) (n - 2 ^ h) (behind h s)) = peaks_some (suc h) (n - 2 ^ h) (behind h s) (omega arith) (omega arith) in
    rw (positions_full h (2 ^ h) i s refl l)
    (by_cases (dec_lt n (2 ^ suc h))
    (λ a.
    positions_skip (suc h) n i s a ∙ positions_here h n i s (omega arith) l
    ∙ ap (λ (r : List (List ℕ)). siblings h i s ++ r)
    (ap to_the_right (sym (peaks_skip h (n - 2 ^ h) (behind h s) (omega arith))) ∙ right_all _ some))
    (λ a.
    positions_full (suc h) n i s (omega arith) (omega arith) ∙ siblings_left h i s l
    ∙ ap (λ (r : List ℕ). siblings h i s ++ (r ∷ [])) (sym (peaks_full h (n - 2 ^ h) (behind h s) (omega arith)))))

-- to the right within a peak: the items of the right side, then the left child
pub positions_right : (h n i s : ℕ) → n ≡ 2 ^ suc h → 2 ^ h ≤ i → i < n
    → positions_in (suc (suc h)) n i s ≡ positions_in (suc h) (n - 2 ^ h) (i - 2 ^ h) (behind h s) ++ (alone (top h s) ∷ [])
positions_right h n i s e p q =
    rw (positions_full h (n - 2 ^ h) (i - 2 ^ h) (behind h s) (omega arith) (omega arith))
    (positions_full (suc h) n i s e q ∙ siblings_right h i s p)

-- to the right past a peak: the peak, then the items of the right side
pub positions_past : (h n i s : ℕ) → 2 ^ h < n → n < 2 ^ suc h → 2 ^ h ≤ i
    → positions_in (suc (suc h)) n i s ≡ alone (top h s) ∷ positions_in (suc h) (n - 2 ^ h) (i - 2 ^ h) (behind h s)
positions_past h n i s p q l =
    positions_skip (suc h) n i s q ∙ positions_pass h n i s (omega arith) l
    ∙ ap {B = List (List ℕ)} (λ r. alone (top h s) ∷ r)
    (sym (positions_skip h (n - 2 ^ h) (i - 2 ^ h) (behind h s) (omega arith)))
