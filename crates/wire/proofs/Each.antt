-- Strings of k bytes: so are those of two lists joined, of a part of a list, the one at a place, and what a function gives whose values have k bytes.
use mathlib.Core.Path.{◌≡◌}
use mathlib.Core.List.{List, [], ◌∷◌, ◌++◌, map}
use Prim.Native.Nat.{ℕ, zero, suc, ◌<◌}
use native.Mathlib.Omega.{arith}
use lib.ListN.{length, get_or, take, drop}
use Rattle.wire.specs.Slices.{Each}

pub each_append : (k : ℕ) (xs ys : List (List ℕ)) → Each k xs → Each k ys → Each k (xs ++ ys)
each_append k [] ys p q = q
each_append k (x ∷ xs) ys p q = (p.0, each_append k xs ys p.1 q)

pub each_take : (k j : ℕ) (xs : List (List ℕ)) → Each k xs → Each k (take j xs)
each_take k zero xs p = tt
each_take k (suc j) [] p = tt
each_take k (suc j) (x ∷ xs) p = (p.0, each_take k j xs p.1)

pub each_drop : (k j : ℕ) (xs : List (List ℕ)) → Each k xs → Each k (drop j xs)
each_drop k zero xs p = p
each_drop k (suc j) [] p = tt
each_drop k (suc j) (x ∷ xs) p = each_drop k j xs p.1

pub each_at : (k : ℕ) (xs : List (List ℕ)) (j : ℕ) → j < length xs → Each k xs → length (get_or xs j []) ≡ k
each_at k [] j l p = absurd (omega arith)
each_at k (x ∷ xs) zero l p = p.0
each_at k (x ∷ xs) (suc j) l p = each_at k xs j (omega arith) p.1

pub each_map : {A : Type 0} (k : ℕ) (f : A → List ℕ) → ((x : A) → length (f x) ≡ k) → (xs : List A) → Each k (map f xs)
each_map k f h [] = tt
each_map k f h (x ∷ xs) = (h x, each_map k f h xs)
