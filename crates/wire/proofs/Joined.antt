-- Runs one behind the other: the length of digests, two lists of runs, and one run.
use mathlib.Core.Path.{◌≡◌, refl, sym, ap, ◌∙◌}
use mathlib.Core.List.{List, [], ◌∷◌, ◌++◌, append_assoc, append-nil}
use Prim.Native.Nat.{ℕ, ◌*◌}
use native.Mathlib.Omega.{arith}
use lib.ListN.{length, length-append}
use Rattle.wire.specs.Slices.{Each, joined}

pub joined_length : (ds : List (List ℕ)) → Each 32 ds → length (joined ds) ≡ 32 * length ds
unfolding joined
joined_length [] a = refl
joined_length (d ∷ ds) a = length-append d (joined ds) ∙ omega (arith, a.0, joined_length ds a.1)

pub joined_append : (xs ys : List (List ℕ)) → joined (xs ++ ys) ≡ joined xs ++ joined ys
unfolding joined
joined_append [] ys = refl
joined_append (x ∷ xs) ys = ap (λ (z : List ℕ). x ++ z) (joined_append xs ys) ∙ sym (append_assoc x (joined xs) (joined ys))

pub joined_one : (x : List ℕ) → joined (x ∷ []) ≡ x
unfolding joined
joined_one x = append-nil x
