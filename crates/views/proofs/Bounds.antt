-- How many digests a passage gives, and how its indexes are cut in two by a loop. What is cited: `under_most`, `under_next`, `under_here`,
-- `under_over`, `passage_asks_most`, `passage_within`, `passage_few`.
use mathlib.Core.Path.{◌≡◌, sym, ap, ◌∙◌}
use mathlib.Core.Logic.{by_cases}
use mathlib.Core.List.{List, [], ◌∷◌}
use Prim.Native.Nat.{ℕ, zero, suc, ◌+◌, ◌-◌, ◌*◌, ◌^◌, ◌≤◌, ◌<◌}
use native.Mathlib.Nat.{mul-suc, add-mul, mul-le-mul_left, mul-le-mul_right, le_trans}
use native.Mathlib.Decide.{dec_le, dec_lt}
use native.Mathlib.Omega.{arith}
use lib.ListN.{length, length-append, get_or, take, drop, take-append-drop, drop_of_length-le}
use lib.Seq.{drop-cons}
use Rattle.shape.specs.Sizes.{height_of}
use Rattle.views.specs.View.{givens, askeds}
use Rattle.views.specs.Passage.{under, passage_in, passage}
use Rattle.views.proofs.Passages.{under_more, under_none, passage_none, passage_low, passage_fork, passage_any}

-- ---- the cut

pub under_most : (m : ℕ) (is : List ℕ) → under m is ≤ length is
unfolding under
under_most m [] = omega arith
under_most m (i ∷ is) =
    by_cases (dec_lt i m) (λ l. rw (under_more m i is l) (omega (arith, under_most m is))) (λ l. rw (under_none m i is (omega arith)) (omega arith))

-- k indexes are below m: one more is, or the next isn't, or there is none
module _ (m : ℕ) (is : List ℕ) (k : ℕ) where
  pub under_next : k < length is → get_or is k 0 < m → k + under m (drop k is) ≡ suc k + under m (drop (suc k) is)
  under_next p q = rw (drop-cons is k 0 p, under_more m (get_or is k 0) (drop (suc k) is) q) (omega arith)

  pub under_here : k < length is → m ≤ get_or is k 0 → k + under m (drop k is) ≡ k
  under_here p q = rw (drop-cons is k 0 p, under_none m (get_or is k 0) (drop (suc k) is) q) (omega arith)

  pub under_over : length is ≤ k → k + under m (drop k is) ≡ k
  unfolding under
  under_over p = rw (drop_of_length-le is {i = k} p) (omega arith)

-- ---- the digests of a passage

some_most : (h k : ℕ) → 0 < k → k * h + 1 ≤ k * suc h
some_most h k p = omega (arith, mul-suc k h)

both_most : (h j k : ℕ) → j * h + k * h ≤ (j + k) * suc h
both_most h j k = omega (arith, mul-suc (j + k) h, add-mul j k h)

-- at most one for each height and index; one where nothing is asked for
pub passage_most : (h n p : ℕ) (is : List ℕ) → 0 < length is → givens (passage_in h n p is) ≤ length is * h
unfolding passage_in
passage_most zero n p [] s = absurd (omega arith)
passage_most zero n p (i ∷ is) s = omega arith
passage_most (suc h) n p [] s = absurd (omega arith)
passage_most (suc h) n p (i ∷ is) s =
    by_cases (dec_le n (2 ^ h))
    (λ l. rw (passage_low h n p (i ∷ is) l) (omega (arith, passage_most h n p (i ∷ is) s, mul-suc (length (i ∷ is)) h)))
    (λ l.
    let k = under (p + 2 ^ h) (i ∷ is) in
    let us = take k (i ∷ is) in
    let vs = drop k (i ∷ is) in
    let e : length us + length vs ≡ length (i ∷ is) = sym (length-append us vs) ∙ ap length (take-append-drop k (i ∷ is)) in
    rw (passage_fork h n p i is (omega arith), ← e)
    (go us vs (λ z. passage_most h (2 ^ h) p us z) (λ z. passage_most h (n - 2 ^ h) (p + 2 ^ h) vs z) (omega arith)))
  where
    go : (us vs : List ℕ)
        → (0 < length us → givens (passage_in h (2 ^ h) p us) ≤ length us * h)
        → (0 < length vs → givens (passage_in h (n - 2 ^ h) (p + 2 ^ h) vs) ≤ length vs * h)
        → 0 < length us + length vs
        → givens (passage_in h (2 ^ h) p us) + givens (passage_in h (n - 2 ^ h) (p + 2 ^ h) vs) ≤ (length us + length vs) * suc h
    go [] [] f g z = absurd (omega arith)
    go [] (v ∷ vs) f g z = rw (passage_none h (2 ^ h) p) (omega (arith, g (omega arith), some_most h (length (v ∷ vs)) (omega arith)))
    go (u ∷ us) [] f g z =
        rw (passage_none h (n - 2 ^ h) (p + 2 ^ h)) (omega (arith, f (omega arith), some_most h (length (u ∷ us)) (omega arith)))
    go (u ∷ us) (v ∷ vs) f g z =
        omega (arith, f (omega arith), g (omega arith), both_most h (length (u ∷ us)) (length (v ∷ vs)))

-- no more leaves than indexes, rising or not
pub passage_asks_most : (h n p : ℕ) (is : List ℕ) → askeds (passage_in h n p is) ≤ length is
unfolding passage_in
passage_asks_most zero n p [] = omega arith
passage_asks_most zero n p (i ∷ is) = omega arith
passage_asks_most (suc h) n p [] = omega arith
passage_asks_most (suc h) n p (i ∷ is) =
    by_cases (dec_le n (2 ^ h))
    (λ l. rw (passage_low h n p (i ∷ is) l) (passage_asks_most h n p (i ∷ is)))
    (λ l.
    let k = under (p + 2 ^ h) (i ∷ is) in
    let us = take k (i ∷ is) in
    let vs = drop k (i ∷ is) in
    let e : length us + length vs ≡ length (i ∷ is) = sym (length-append us vs) ∙ ap length (take-append-drop k (i ∷ is)) in
    rw (passage_fork h n p i is (omega arith))
    (omega (arith, passage_asks_most h (2 ^ h) p us, passage_asks_most h (n - 2 ^ h) (p + 2 ^ h) vs)))

-- no height: in a log of at most 2^h leaves
pub passage_at_most : (h n : ℕ) (is : List ℕ) → 0 < length is → n ≤ 2 ^ h → givens (passage n is) ≤ length is * h
passage_at_most h n is p q = rw (← passage_any h n is q) (passage_most h n 0 is p)

-- in a log within the limits
pub passage_within : (n : ℕ) (is : List ℕ) → n ≤ 2 ^ 32 → givens (passage n is) ≤ 1 + 32 * length is
unfolding passage
passage_within n [] p = rw (passage_none (height_of n) n 0) (omega arith)
passage_within n (i ∷ is) p = omega (arith, passage_at_most 32 n (i ∷ is) (omega arith) p)

-- 256 indexes at most, and heights up to 32: so no sum of these wraps
pub passage_few : (h n p : ℕ) (is : List ℕ) → h ≤ 32 → length is ≤ 256 → givens (passage_in h n p is) ≤ 8192
passage_few h n p [] l m = rw (passage_none h n p) (omega arith)
passage_few h n p (i ∷ is) l m =
    le_trans (passage_most h n p (i ∷ is) (omega arith))
    (le_trans (mul-le-mul_right {m = length (i ∷ is)} {n = 256} h m) (mul-le-mul_left {m = h} {n = 32} 256 l))
