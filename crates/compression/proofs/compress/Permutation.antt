-- P's rule, proved over its table: each entry is below 16, and new word i is old word P[i].
use Rattle.std.proofs.Common.{◌≡◌, ℕ, zero, suc, ◌<◌, Bool, true, false, ◌&&◌, ◌||◌, T, eqb, ltb, List, [], ◌∷◌, length, get_or, arith, ltb→lt}
use Rattle.compression.specs.Compression.{order, permuted}
use Rattle.words.proofs.Builds.{build_at}

-- the test of a whole table: every entry is below k
abbrev inside : ℕ → List ℕ → Bool
inside k [] = true
inside k (x ∷ xs) = ltb x k && inside k xs

parts : (a b : Bool) → T (a && b) → T a × T b
parts true b t = (tt, t)
parts false b t = elim t [ ]

-- what the test says of each entry
inside_at : (k : ℕ) (xs : List ℕ) → T (inside k xs) → (i : ℕ) → i < length xs → get_or xs i 0 < k
inside_at k [] t i h = absurd (omega arith)
inside_at k (x ∷ xs) t zero h = ltb→lt x k (parts (ltb x k) (inside k xs) t).0
inside_at k (x ∷ xs) t (suc i) h = inside_at k xs (parts (ltb x k) (inside k xs) t).1 i (omega arith)

pub order_inside : (i : ℕ) → i < 16 → get_or order i 0 < 16
order_inside i h = inside_at 16 order tt i h

pub permuted_at : (m : List ℕ) (i : ℕ) → i < 16 → get_or (permuted m) i 0 ≡ get_or m (get_or order i 0) 0
unfolding permuted
permuted_at m i h = build_at 16 (λ k. get_or m (get_or order k 0) 0) i h

-- P is a permutation: each place below 16 is read
abbrev reads : List ℕ → ℕ → Bool
reads [] i = false
reads (x ∷ xs) i = eqb x i || reads xs i

abbrev all_read : List ℕ → ℕ → Bool
all_read xs zero = true
all_read xs (suc i) = reads xs i && all_read xs i

pub order_all : T (all_read order 16)
order_all = tt
