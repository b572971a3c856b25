-- The view of a rising list of indexes is a view of the log, and it asks for the leaves at these indexes, in their order.
use mathlib.Core.Path.{◌≡◌, refl, sym, ap, ap₂, ◌∙◌}
use mathlib.Core.Logic.{by_cases}
use mathlib.Core.List.{List, [], ◌∷◌, ◌++◌, map, map-append}
use Prim.Native.Nat.{ℕ, zero, suc, ◌+◌, ◌-◌, ◌^◌, ◌≤◌, ◌<◌}
use native.Mathlib.Nat.{zero-add}
use native.Mathlib.Decide.{dec_le, dec_lt}
use native.Mathlib.Omega.{arith}
use lib.ListN.{length, length-append, get_or, take, drop, take-append-drop}
use lib.Pow.{pow_pos}
use borrow.Author.Tests.{le-leb, lt-leb, lt-ltb, le-ltb}
use Rattle.shape.specs.Sizes.{size_of, height_of}
use Rattle.shape.specs.Positions.{behind}
use Rattle.shape.specs.Folded.{tree}
use Rattle.shape.specs.Nodes.{Holds, nodes}
use Rattle.shape.proofs.Heights.{height_holds, any_height}
use Rattle.shape.proofs.Sizes.{size_zero, size_peak}
use Rattle.shape.proofs.Leaves.{leaf_at_lem}
use Rattle.views.specs.View.{given, asked, both, askeds, ViewOf, leaves_of}
use Rattle.views.specs.Passage.{Rising, under, passage_in, passage}
use Rattle.views.specs.Shows.{leaves_by}
use Rattle.views.proofs.Sides.{side_is, leaves_fork}
use Rattle.views.proofs.Own.{own_by}

-- ---- a rising list in two parts

pub under_more : (m i : ℕ) (is : List ℕ) → i < m → under m (i ∷ is) ≡ suc (under m is)
unfolding under
under_more m i is p = rw (lt-ltb i m p, under)

pub under_none : (m i : ℕ) (is : List ℕ) → m ≤ i → under m (i ∷ is) ≡ 0
unfolding under
under_none m i is p = rw (le-ltb i m p, under)

pub rising_take : (p q m : ℕ) (is : List ℕ) → Rising p q is → Rising p m (take (under m is) is)
unfolding under
rising_take p q m [] a = tt
rising_take p q m (i ∷ is) a =
    by_cases (dec_lt i m)
    (λ l. rw (under_more m i is l) (a.0, l, rising_take (suc i) q m is a.2))
    (λ l. rw (under_none m i is (omega arith)) tt)

pub rising_drop : (p q m : ℕ) (is : List ℕ) → p ≤ m → Rising p q is → Rising m q (drop (under m is) is)
unfolding under
rising_drop p q m [] l a = tt
rising_drop p q m (i ∷ is) l a =
    by_cases (dec_lt i m)
    (λ c. rw (under_more m i is c) (rising_drop (suc i) q m is c a.2))
    (λ c. rw (under_none m i is (omega arith)) (omega arith, a.1, a.2))

parts_length : (k : ℕ) (is : List ℕ) → length (take k is) + length (drop k is) ≡ length is
parts_length k is = sym (length-append (take k is) (drop k is)) ∙ ap length (take-append-drop k is)

-- ---- its equations

pub passage_none : (h n p : ℕ) → passage_in h n p [] ≡ given
unfolding passage_in
passage_none zero n p = refl
passage_none (suc h) n p = refl

pub passage_leaf : (n p i : ℕ) (is : List ℕ) → passage_in 0 n p (i ∷ is) ≡ asked
unfolding passage_in
passage_leaf n p i is = refl

pub passage_low : (h n p : ℕ) (is : List ℕ) → n ≤ 2 ^ h → passage_in (suc h) n p is ≡ passage_in h n p is
unfolding passage_in
passage_low h n p [] l = sym (passage_none h n p)
passage_low h n p (i ∷ is) l = rw (le-leb n (2 ^ h) l, passage_in)

-- the indexes below the first leaf of the right side go left
pub passage_fork : (h n p i : ℕ) (is : List ℕ) → 2 ^ h < n
    → passage_in (suc h) n p (i ∷ is)
    ≡ both (passage_in h (2 ^ h) p (take (under (p + 2 ^ h) (i ∷ is)) (i ∷ is)))
    (passage_in h (n - 2 ^ h) (p + 2 ^ h) (drop (under (p + 2 ^ h) (i ∷ is)) (i ∷ is)))
unfolding passage_in
passage_fork h n p i is l = rw (lt-leb n (2 ^ h) l, passage_in)

pub passage_any : (h n : ℕ) (is : List ℕ) → n ≤ 2 ^ h → passage_in h n 0 is ≡ passage n is
unfolding passage
passage_any h n is p = any_height (λ (k : ℕ). passage_in k n 0 is) n (λ k q. passage_low k n 0 is q) h p

-- ---- a view of the log, with one asked leaf for each index

module _ (h n p i : ℕ) (is : List ℕ) (a : Rising p (p + n) (i ∷ is)) (l : 2 ^ h < n) where
  abbrev cut : ℕ
  cut = under (p + 2 ^ h) (i ∷ is)

  pub rising_left : Rising p (p + 2 ^ h) (take (under (p + 2 ^ h) (i ∷ is)) (i ∷ is))
  rising_left = rising_take p (p + n) (p + 2 ^ h) (i ∷ is) a

  pub rising_right : Rising (p + 2 ^ h) (p + 2 ^ h + (n - 2 ^ h)) (drop (under (p + 2 ^ h) (i ∷ is)) (i ∷ is))
  rising_right =
      let e : p + 2 ^ h + (n - 2 ^ h) ≡ p + n = omega arith in
      rw e (rising_drop p (p + n) (p + 2 ^ h) (i ∷ is) (omega arith) a)

one_alone : (n p i j : ℕ) (is : List ℕ) → Rising p (p + n) (i ∷ j ∷ is) → n ≤ 1 → ⊥
one_alone n p i j is a q = omega arith

-- of any list, rising or not
pub passage_view : (h n p : ℕ) (is : List ℕ) → 0 < n → n ≤ 2 ^ h → ViewOf n (passage_in h n p is)
unfolding passage_in
passage_view zero n p [] s q = tt
passage_view zero n p (i ∷ is) s q = omega arith
passage_view (suc h) n p [] s q = tt
passage_view (suc h) n p (i ∷ is) s q =
    by_cases (dec_le n (2 ^ h))
    (λ l. rw (passage_low h n p (i ∷ is) l) (passage_view h n p (i ∷ is) s l))
    (λ l.
    let b : 2 ^ h < n = omega arith in
    rw (passage_fork h n p i is b, side_is h n b q) (
      omega (arith, pow_pos h),
      passage_view h (2 ^ h) p _ (pow_pos h) (omega arith),
      passage_view h (n - 2 ^ h) (p + 2 ^ h) _ (omega arith) (omega arith),
    ))

pub passage_asks : (h n p : ℕ) (is : List ℕ) → n ≤ 2 ^ h → Rising p (p + n) is → askeds (passage_in h n p is) ≡ length is
unfolding passage_in
passage_asks zero n p [] q a = refl
passage_asks zero n p (i ∷ []) q a = refl
passage_asks zero n p (i ∷ j ∷ is) q a = absurd (one_alone n p i j is a q)
passage_asks (suc h) n p [] q a = refl
passage_asks (suc h) n p (i ∷ is) q a =
    by_cases (dec_le n (2 ^ h))
    (λ l. rw (passage_low h n p (i ∷ is) l) (passage_asks h n p (i ∷ is) l a))
    (λ l.
    let b : 2 ^ h < n = omega arith in
    rw (
      passage_fork h n p i is b,
      passage_asks h (2 ^ h) p _ (omega arith) (rising_left h n p i is a b),
      passage_asks h (n - 2 ^ h) (p + 2 ^ h) _ (omega arith) (rising_right h n p i is a b),
    ) (parts_length (under (p + 2 ^ h) (i ∷ is)) (i ∷ is)))

-- no height
pub passage_of : (n : ℕ) (is : List ℕ) → 0 < n → ViewOf n (passage n is)
unfolding passage
passage_of n is p = passage_view (height_of n) n 0 is p (height_holds n)

pub passage_askeds : (n : ℕ) (is : List ℕ) → Rising 0 n is → askeds (passage n is) ≡ length is
unfolding passage
passage_askeds n is a = passage_asks (height_of n) n 0 is (height_holds n) (rw (← zero-add n) at a)

-- ---- the asked leaves

pub map_rising : {A : Type 0} (f g : ℕ → A) (p q : ℕ) (is : List ℕ) → Rising p q is → ((i : ℕ) → p ≤ i → i < q → f i ≡ g i) → map f is ≡ map g is
map_rising f g p q [] a e = refl
map_rising f g p q (i ∷ is) a e =
    ap₂ (λ x xs. x ∷ xs) (e i a.0 a.1) (map_rising f g (suc i) q is a.2 (λ j l. e j (omega arith)))

module _ (digest : List ℕ → List ℕ) (node : ℕ → List ℕ) where
  -- leaf i, where leaf p stands at position s and begins a tree
  abbrev leaf_from : ℕ → ℕ → ℕ → List ℕ
  leaf_from p s i = node (s + size_of (i - p))

  leaf_beyond : (h n p s i : ℕ) → n ≤ 2 ^ suc h → p + 2 ^ h ≤ i → i < p + 2 ^ h + (n - 2 ^ h) → leaf_from (p + 2 ^ h) (behind h s) i ≡ leaf_from p s i
  leaf_beyond h n p s i q l m =
      let e : 2 ^ h + (i - (p + 2 ^ h)) ≡ i - p = omega arith in
      ap node (omega (arith, size_peak h (i - (p + 2 ^ h)) (omega arith), ap size_of e))

  pub passage_leaves_in : (h n p s : ℕ) (is : List ℕ) → n ≤ 2 ^ h → Rising p (p + n) is
      → leaves_by digest node (passage_in h n p is) n s ≡ map (λ i. node (s + size_of (i - p))) is
  unfolding passage_in
  passage_leaves_in zero n p s [] q a = refl
  passage_leaves_in zero n p s (i ∷ []) q a =
      let e : i - p ≡ 0 = omega arith in
      let z : s + size_of (i - p) ≡ s = omega (arith, ap size_of e, size_zero) in
      rw z
  passage_leaves_in zero n p s (i ∷ j ∷ is) q a = absurd (one_alone n p i j is a q)
  passage_leaves_in (suc h) n p s [] q a = refl
  passage_leaves_in (suc h) n p s (i ∷ is) q a =
      by_cases (dec_le n (2 ^ h))
      (λ l. rw (passage_low h n p (i ∷ is) l) (passage_leaves_in h n p s (i ∷ is) l a))
      (λ l.
      let b : 2 ^ h < n = omega arith in
      let k = under (p + 2 ^ h) (i ∷ is) in
      let us = take k (i ∷ is) in
      let vs = drop k (i ∷ is) in
      let c : leaves_by digest node (passage_in h (2 ^ h) p us) (2 ^ h) s ≡ map (leaf_from p s) us =
      passage_leaves_in h (2 ^ h) p s us (omega arith) (rising_left h n p i is a b) in
      let d : leaves_by digest node (passage_in h (n - 2 ^ h) (p + 2 ^ h) vs) (n - 2 ^ h) (behind h s) ≡ map (leaf_from p s) vs =
      passage_leaves_in h (n - 2 ^ h) (p + 2 ^ h) (behind h s) vs (omega arith) (rising_right h n p i is a b)
      ∙ map_rising (leaf_from (p + 2 ^ h) (behind h s)) (leaf_from p s) (p + 2 ^ h) (p + 2 ^ h + (n - 2 ^ h)) vs (rising_right h n p i is a b)
      (λ j. leaf_beyond h n p s j q) in
      rw (passage_fork h n p i is b)
      (leaves_fork digest node (passage_in h (2 ^ h) p us) (passage_in h (n - 2 ^ h) (p + 2 ^ h) vs) h n s b q
      ∙ ap₂ (λ (x y : List (List ℕ)). x ++ y) c d ∙ sym (map-append (leaf_from p s) us vs)
      ∙ ap (map (leaf_from p s)) (take-append-drop k (i ∷ is))))

  -- the nodes that stand at the places of the asked leaves
  pub passage_leaves : (n : ℕ) (is : List ℕ) → Rising 0 n is → leaves_by digest node (passage n is) n 0 ≡ map (λ i. node (size_of i)) is
  unfolding passage
  passage_leaves n is a =
      passage_leaves_in (height_of n) n 0 0 is (height_holds n) (rw (← zero-add n) at a)
      ∙ map_rising (leaf_from 0 0) (λ i. node (size_of i)) 0 n is a (λ i p q.
      let e : i - 0 ≡ i = omega arith in
      ap node (omega (arith, ap size_of e)))

-- the log's leaves at the indexes
pub passage_asked : (digest : List ℕ → List ℕ) (ds : List (List ℕ)) (is : List ℕ) → 0 < length ds → Rising 0 (length ds) is
    → leaves_of (passage (length ds) is) (tree ds) ≡ map (λ i. get_or ds i []) is
passage_asked digest ds is p a =
    let node : ℕ → List ℕ = λ k. get_or (nodes digest ds) k [] in
    let f : Holds node 0 (nodes digest ds) = λ k l. ap node (zero-add k) in
    sym (own_by digest node (passage (length ds) is) 0 ds p (passage_of (length ds) is p) f).leaves
    ∙ passage_leaves digest node (length ds) is a
    ∙ map_rising (λ i. node (size_of i)) (λ i. get_or ds i []) 0 (length ds) is a (λ i l m. leaf_at_lem digest ds i m)
