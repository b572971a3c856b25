-- A part of a list, from a place on.
use mathlib.Core.Path.{◌≡◌, sym, ap, ◌∙◌}
use mathlib.Core.List.{List, [], ◌∷◌}
use Prim.Native.Nat.{ℕ, zero, suc, ◌-◌}
use native.Mathlib.Omega.{arith}
use lib.ListN.{take, drop}
use lib.Seq.{take-nil}

pub drop_take : (i j : ℕ) (l : List ℕ) → drop i (take j l) ≡ take (j - i) (drop i l)
drop_take zero j l = ap (λ (k : ℕ). take k l) (let e : j ≡ j - 0 = omega arith in e)
drop_take (suc i) zero l = ap (λ (k : ℕ). take k (drop (suc i) l)) (let e : 0 ≡ 0 - suc i = omega arith in e)
drop_take (suc i) (suc j) [] = sym (take-nil (suc j - suc i))
drop_take (suc i) (suc j) (x ∷ xs) =
    drop_take i j xs ∙ ap (λ (k : ℕ). take k (drop i xs)) (let e : j - i ≡ suc j - suc i = omega arith in e)
