-- The views in the words of the rules: the largest subtrees holding no asked record; the old peaks, and the largest subtrees wholly to their right.
-- What is cited: `passage_largest`, `start_largest`.
use mathlib.Core.Path.{◌≡◌, refl, sym, ap, ap₂, ◌∙◌}
use mathlib.Core.Logic.{by_cases}
use mathlib.Core.Bool.{Bool, true, false, ◌&&◌, ◌||◌}
use mathlib.Core.List.{List, [], ◌∷◌, ◌++◌}
use Prim.Native.Nat.{ℕ, zero, suc, ◌+◌, ◌-◌, ◌^◌, ◌≤◌, ◌<◌}
use native.Mathlib.Nat.{zero-add}
use native.Mathlib.Decide.{dec_le, dec_lt}
use native.Mathlib.Omega.{arith}
use lib.ListN.{take, drop, take-append-drop}
use lib.Dec.{leb, ltb}
use lib.Pow.{pow_pos}
use borrow.Author.Tests.{le-leb, lt-leb, lt-ltb, le-ltb, eq-eqb, ne_eqb}
use Rattle.shape.specs.Sizes.{height_of}
use Rattle.shape.proofs.Heights.{height_holds, height_is}
use Rattle.views.specs.View.{given, asked, both}
use Rattle.views.specs.Passage.{Rising, under, passage_in, passage}
use Rattle.views.specs.Start.{start_in, start}
use Rattle.views.specs.Largest.{largest_in, largest, holds_none, peak_or_right}
use Rattle.views.proofs.Passages.{passage_none, passage_leaf, passage_low, passage_fork, rising_left, rising_right}
use Rattle.views.proofs.Starts.{start_low, start_left, start_right, start_peak, start_ind}

-- ---- its equations

module _ (kind : ℕ → ℕ → Bool) where
  pub largest_given : (h n p : ℕ) → kind p n ≡ true → largest_in kind h n p ≡ given
  unfolding largest_in
  largest_given zero n p e = rw (e, largest_in)
  largest_given (suc h) n p e = rw (e, largest_in)

  pub largest_asked : (n p : ℕ) → kind p n ≡ false → largest_in kind 0 n p ≡ asked
  unfolding largest_in
  largest_asked n p e = rw (e, largest_in)

  pub largest_fork : (h n p : ℕ) → kind p n ≡ false → 2 ^ h < n
      → largest_in kind (suc h) n p ≡ both (largest_in kind h (2 ^ h) p) (largest_in kind h (n - 2 ^ h) (p + 2 ^ h))
  unfolding largest_in
  largest_fork h n p e q = rw (e, largest_in, lt-leb n (2 ^ h) q)

  pub largest_low : (h n p : ℕ) → n ≤ 2 ^ h → largest_in kind (suc h) n p ≡ largest_in kind h n p
  unfolding largest_in
  largest_low h n p q = go (kind p n) refl
    where
      go : (t : Bool) → kind p n ≡ t → largest_in kind (suc h) n p ≡ largest_in kind h n p
      go true e = largest_given (suc h) n p e ∙ sym (largest_given h n p e)
      go false e = rw (e, largest_in, le-leb n (2 ^ h) q)

-- two kinds that are the same for all subtrees of n leaves from leaf p on
largest_same : (kind other : ℕ → ℕ → Bool) (h n p : ℕ) → n ≤ 2 ^ h → ((q m : ℕ) → p ≤ q → q + m ≤ p + n → kind q m ≡ other q m)
    → largest_in kind h n p ≡ largest_in other h n p
unfolding largest_in
largest_same kind other zero n p a f = rw (f p n (omega arith) (omega arith), largest_in)
largest_same kind other (suc h) n p a f =
    by_cases (dec_le n (2 ^ h))
    (λ b. largest_low kind h n p b ∙ largest_same kind other h n p b f ∙ sym (largest_low other h n p b))
    (λ b. go (kind p n) refl (omega arith)
    (largest_same kind other h (2 ^ h) p (omega arith) (λ q m l r. f q m l (omega arith)))
    (largest_same kind other h (n - 2 ^ h) (p + 2 ^ h) (omega arith) (λ q m l r. f q m (omega arith) (omega arith))))
  where
    go : (t : Bool) → kind p n ≡ t → 2 ^ h < n → largest_in kind h (2 ^ h) p ≡ largest_in other h (2 ^ h) p
        → largest_in kind h (n - 2 ^ h) (p + 2 ^ h) ≡ largest_in other h (n - 2 ^ h) (p + 2 ^ h)
        → largest_in kind (suc h) n p ≡ largest_in other (suc h) n p
    go true e b c d =
        largest_given kind (suc h) n p e ∙ sym (largest_given other (suc h) n p (sym (f p n (omega arith) (omega arith)) ∙ e))
    go false e b c d =
        largest_fork kind h n p e b ∙ ap₂ both c d
        ∙ sym (largest_fork other h n p (sym (f p n (omega arith) (omega arith)) ∙ e) b)

-- ---- passages

none_beside : (i p n : ℕ) (is : List ℕ) → ((p ≤ i) → (i < p + n) → ⊥) → holds_none (i ∷ is) p n ≡ holds_none is p n
none_beside i p n is f =
    by_cases (dec_lt i p)
    (λ a. rw (lt-ltb i p a))
    (λ a.
    let b : p + n ≤ i = by_cases (dec_lt i (p + n)) (λ c. absurd (f (omega arith) c)) (λ c. omega arith) in
    rw (le-ltb i p (omega arith), le-leb (p + n) i b))

none_within : (i p n : ℕ) (is : List ℕ) → p ≤ i → i < p + n → holds_none (i ∷ is) p n ≡ false
none_within i p n is a b = rw (le-ltb i p a, lt-leb (p + n) i b)

and_assoc : (s t u : Bool) → (s && (t && u)) ≡ ((s && t) && u)
and_assoc true t u = refl
and_assoc false t u = refl

none_append : (us vs : List ℕ) (p n : ℕ) → holds_none (us ++ vs) p n ≡ holds_none us p n && holds_none vs p n
none_append [] vs p n = refl
none_append (u ∷ us) vs p n =
    ap (λ (t : Bool). (ltb u p || leb (p + n) u) && t) (none_append us vs p n)
    ∙ and_assoc (ltb u p || leb (p + n) u) (holds_none us p n) (holds_none vs p n)

-- indexes that stand to one side
none_above : (is : List ℕ) (m r p n : ℕ) → Rising m r is → p + n ≤ m → holds_none is p n ≡ true
none_above [] m r p n a q = refl
none_above (i ∷ is) m r p n a q = none_beside i p n is (λ b c. omega arith) ∙ none_above is (suc i) r p n a.2 (omega arith)

none_below : (is : List ℕ) (m r p n : ℕ) → Rising m r is → r ≤ p → holds_none is p n ≡ true
none_below [] m r p n a q = refl
none_below (i ∷ is) m r p n a q = none_beside i p n is (λ b c. omega arith) ∙ none_below is (suc i) r p n a.2 q

and_true : (t : Bool) → (t && true) ≡ t
and_true true = refl
and_true false = refl

pub passage_largest_in : (h n p : ℕ) (is : List ℕ) → n ≤ 2 ^ h → Rising p (p + n) is → passage_in h n p is ≡ largest_in (holds_none is) h n p
passage_largest_in zero n p [] q a = passage_none 0 n p ∙ sym (largest_given (holds_none []) 0 n p refl)
passage_largest_in zero n p (i ∷ is) q a =
    passage_leaf n p i is ∙ sym (largest_asked (holds_none (i ∷ is)) n p (none_within i p n is a.0 a.1))
passage_largest_in (suc h) n p [] q a = passage_none (suc h) n p ∙ sym (largest_given (holds_none []) (suc h) n p refl)
passage_largest_in (suc h) n p (i ∷ is) q a =
    by_cases (dec_le n (2 ^ h))
    (λ l. passage_low h n p (i ∷ is) l ∙ passage_largest_in h n p (i ∷ is) l a ∙ sym (largest_low (holds_none (i ∷ is)) h n p l))
    (λ l.
    let b : 2 ^ h < n = omega arith in
    let k = under (p + 2 ^ h) (i ∷ is) in
    let us = take k (i ∷ is) in
    let vs = drop k (i ∷ is) in
    let c = rising_left h n p i is a b in
    let d = rising_right h n p i is a b in
    let both-parts : (x m : ℕ) → holds_none (i ∷ is) x m ≡ holds_none us x m && holds_none vs x m =
    λ x m. ap (λ (js : List ℕ). holds_none js x m) (sym (take-append-drop k (i ∷ is))) ∙ none_append us vs x m in
    passage_fork h n p i is b
    ∙ ap₂ both
    (passage_largest_in h (2 ^ h) p us (omega arith) c
    ∙ largest_same (holds_none us) (holds_none (i ∷ is)) h (2 ^ h) p (omega arith)
    (λ x m u w. sym (both-parts x m ∙ rw (none_above vs (p + 2 ^ h) (p + 2 ^ h + (n - 2 ^ h)) x m d w) (and_true (holds_none us x m)))))
    (passage_largest_in h (n - 2 ^ h) (p + 2 ^ h) vs (omega arith) d
    ∙ largest_same (holds_none vs) (holds_none (i ∷ is)) h (n - 2 ^ h) (p + 2 ^ h) (omega arith)
    (λ x m u w. sym (both-parts x m ∙ rw (none_below us p (p + 2 ^ h) x m c u))))
    ∙ sym (largest_fork (holds_none (i ∷ is)) h n p (none_within i p n is a.0 a.1) b))

-- one digest for each largest subtree holding no asked record
pub passage_largest : (n : ℕ) (is : List ℕ) → Rising 0 n is → passage n is ≡ largest (holds_none is) n
unfolding passage largest
passage_largest n is a = passage_largest_in (height_of n) n 0 is (height_holds n) (rw (← zero-add n) at a)

-- ---- half-time

or_true : (t : Bool) → (t || true) ≡ true
or_true true = refl
or_true false = refl

right_kind : (o p n : ℕ) → o ≤ p → peak_or_right o p n ≡ true
right_kind o p n a = rw (le-leb o p a)

peak_kind : (o h p n : ℕ) → p + n ≤ o → n ≡ 2 ^ h → peak_or_right o p n ≡ true
peak_kind o h p n a e =
    let k : height_of n ≡ h = height_is n h (omega arith) (omega (arith, pow_pos h)) in
    rw (le-leb (p + n) o a, k, eq-eqb n (2 ^ h) e) (or_true (leb o p))

-- it holds leaves on both sides, or more than one peak
other_kind : (o p n : ℕ) → p < o → (p + n ≤ o → n ≡ 2 ^ height_of n → ⊥) → peak_or_right o p n ≡ false
other_kind o p n a f =
    by_cases (dec_le (p + n) o)
    (λ b. rw (lt-leb o p a, le-leb (p + n) o b, ne_eqb n (2 ^ height_of n) (f b)))
    (λ b. rw (lt-leb o p a, lt-leb (p + n) o (omega arith)))

pub start_largest_in : (h o n : ℕ) → 0 < o → o ≤ n → n ≤ 2 ^ h → (p : ℕ) → start_in h o n ≡ largest_in (peak_or_right (p + o)) h n p
start_largest_in =
    start_ind (λ h o n. (p : ℕ) → start_in h o n ≡ largest_in (peak_or_right (p + o)) h n p)
    (λ o n z a q p.
    start_peak 0 o n (omega arith) (omega arith)
    ∙ sym (largest_given (peak_or_right (p + o)) 0 n p (peak_kind (p + o) 0 p n (omega arith) (omega arith))))
    (λ h o n z a q i p. start_low h o n q ∙ i p ∙ sym (largest_low (peak_or_right (p + o)) h n p q))
    (λ h o n z a q r i p.
    start_left h o n q a
    ∙ ap₂ both (i p) (sym (largest_given (peak_or_right (p + o)) h (n - 2 ^ h) (p + 2 ^ h) (right_kind (p + o) (p + 2 ^ h) (n - 2 ^ h) (omega arith))))
    ∙ sym (largest_fork (peak_or_right (p + o)) h n p (other_kind (p + o) p n (omega arith) (λ u w. omega arith)) q))
    (λ h o n a q r t i p.
    let e : p + 2 ^ h + (o - 2 ^ h) ≡ p + o = omega arith in
    let f : start_in h (o - 2 ^ h) (n - 2 ^ h) ≡ largest_in (peak_or_right (p + o)) h (n - 2 ^ h) (p + 2 ^ h) = rw e at (i (p + 2 ^ h)) in
    start_right h o n (omega arith) a q
    ∙ ap₂ both (sym (largest_given (peak_or_right (p + o)) h (2 ^ h) p (peak_kind (p + o) h p (2 ^ h) (omega arith) refl))) f
    ∙ sym (largest_fork (peak_or_right (p + o)) h n p
    (other_kind (p + o) p n (omega (arith, pow_pos h)) (λ u w.
    let k : height_of n ≡ suc h = height_is n (suc h) t (omega arith) in
    let m : n ≡ 2 ^ suc h = w ∙ ap (λ (x : ℕ). 2 ^ x) k in
    omega arith)) (omega arith)))
    (λ h o n a q p.
    start_peak (suc h) o n a q
    ∙ sym (largest_given (peak_or_right (p + o)) (suc h) n p (peak_kind (p + o) (suc h) p n (omega arith) q)))

-- the old log's peaks, and the largest subtrees wholly to their right
pub start_largest : (o n : ℕ) → 0 < o → o ≤ n → start o n ≡ largest (peak_or_right o) n
unfolding start largest
start_largest o n z p =
    start_largest_in (height_of n) o n z p (height_holds n) 0
    ∙ ap (λ (x : ℕ). largest_in (peak_or_right x) (height_of n) n 0) (zero-add o)
