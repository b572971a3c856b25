-- M1 to M16: one test that the prover computes over the whole table, and the law that turns it into each example.
-- A search up to 2^32 is not computed: that size 2 gives 1 is tested by the search up to 2, and `count_near` carries it to 2^32.
use mathlib.Core.Path.{◌≡◌, refl, ap₂}
use mathlib.Core.Bool.{Bool, true, false, ◌&&◌}
use mathlib.Core.List.{List, [], ◌∷◌}
use Prim.Native.Nat.{ℕ, zero, suc, ◌<◌}
use native.Mathlib.Nat.{le_refl}
use native.Mathlib.Omega.{arith}
use lib.Dec.{T, eqb, eqb→eq}
use lib.Count.{ones, ones_in}
use lib.ListN.{length, get_or}
use Rattle.shape.specs.Answers.{Answer, done, refused}
use Rattle.shape.specs.Sizes.{size_of, size_answer, position_answer, count_up_to, trailing_ones, hash_count, height_of}
use Rattle.shape.specs.Positions.{peaks_in, siblings, positions_in, item_positions}
use Rattle.shape.specs.Marks.{Mark, size, none, leaf, counts, items, Says, marked}
use Rattle.shape.proofs.Counts.{count_near}

both : (a b : Bool) → T (a && b) → T a × T b
both true b t = (tt, t)
both false b t = elim t [ ]

-- equal lists, by a test of their elements
abbrev same : {A : Type 0} → (A → A → Bool) → List A → List A → Bool
same test [] [] = true
same test [] (y ∷ ys) = false
same test (x ∷ xs) [] = false
same test (x ∷ xs) (y ∷ ys) = test x y && same test xs ys

same_is : {A : Type 0} (test : A → A → Bool) → ((x y : A) → T (test x y) → x ≡ y) → (xs ys : List A) → T (same test xs ys) → xs ≡ ys
same_is test f [] [] t = refl
same_is test f [] (y ∷ ys) t = elim t [ ]
same_is test f (x ∷ xs) [] t = elim t [ ]
same_is test f (x ∷ xs) (y ∷ ys) t =
    let u = both (test x y) (same test xs ys) t in
    ap₂ ◌∷◌ (f x y u.0) (same_is test f xs ys u.1)

abbrev equal : Answer → Answer → Bool
equal a b = eqb a.number b.number && eqb a.value b.value

equal_is : (a b : Answer) → T (equal a b) → a ≡ b
equal_is a b t =
    let u = both (eqb a.number b.number) (eqb a.value b.value) t in
    λ i. record { number = eqb→eq a.number b.number u.0 i; value = eqb→eq a.value b.value u.1 i }

-- the test of a row
abbrev test : Mark → Bool
test (size n s) = equal (size_answer n) (done s)
test (none s) = equal (count_up_to s s) (refused 1)
test (leaf i p) = equal (position_answer i) (done p)
test (counts n k) = eqb (hash_count n) k
test (items n i ps) = same (same eqb) (item_positions n i) ps

sound : (m : Mark) → T (test m) → Says m
sound (size n s) t = equal_is (size_answer n) (done s) t
sound (none s) t = count_near s s (le_refl s) (equal_is (count_up_to s s) (refused 1) t)
sound (leaf i p) t = equal_is (position_answer i) (done p) t
sound (counts n k) t = eqb→eq (hash_count n) k t
sound (items n i ps) t = same_is (same eqb) (same_is eqb eqb→eq) (item_positions n i) ps t

-- the test of the whole table
abbrev every : List Mark → Bool
every [] = true
every (m ∷ ms) = test m && every ms

every_says : (ms : List Mark) (m : Mark) (k : ℕ) → T (every ms) → k < length ms → Says (get_or ms k m)
every_says [] m k t p = absurd (omega arith)
every_says (x ∷ ms) m zero t p = sound x (both (test x) (every ms) t).0
every_says (x ∷ ms) m (suc k) t p = every_says ms m k (both (test x) (every ms) t).1 (omega arith)

passed : T (every marked)
unfolding marked size_of ones ones_in size_answer position_answer count_up_to trailing_ones height_of peaks_in siblings positions_in item_positions
passed = tt

-- row k of the table, counted from 0, is example M(k+1), and it holds
pub marked_says : (k : ℕ) → k < length marked → Says (get_or marked k (none 2))
marked_says k p = every_says marked (none 2) k passed p

-- there are sixteen rows
pub marked_all : length marked ≡ 16
unfolding marked
marked_all = refl
