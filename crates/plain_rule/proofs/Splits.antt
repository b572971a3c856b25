-- Every list of records but the empty one is split by the plain rule, and no other is.
use mathlib.Core.Path.{◌≡◌}
use mathlib.Core.Logic.{by_cases}
use mathlib.Core.List.{List, [], ◌∷◌}
use Prim.Native.Nat.{ℕ, zero, suc, ◌-◌, ◌^◌, ◌≤◌}
use native.Mathlib.Decide.{dec_le}
use native.Mathlib.Omega.{arith}
use lib.ListN.{length, length-drop, take, drop}
use lib.Seq.{length-take-le}
use lib.Pow.{pow_pos}
use Rattle.powers.proofs.Largest.{largest_of}
use Rattle.shape.proofs.Heights.{height_holds}
use Rattle.plain_rule.specs.Rule.{Split, one, more, SplitSome}

split_in : (h : ℕ) (rs : List (List ℕ)) → 1 ≤ length rs → length rs ≤ 2 ^ h → Split rs
split_in zero [] p q = absurd (omega arith)
split_in zero (r ∷ []) p q = one r
split_in zero (r ∷ s ∷ rs) p q = absurd (omega arith)
split_in (suc h) rs p q =
    by_cases (dec_le (length rs) (2 ^ h)) (split_in h rs p)
    (λ a.
    let n : length (take (2 ^ h) rs) ≡ 2 ^ h = length-take-le (2 ^ h) rs (omega arith) in
    let m : length (drop (2 ^ h) rs) ≡ length rs - 2 ^ h = length-drop (2 ^ h) rs in
    more rs (2 ^ h) (largest_of h (length rs) (omega arith) q)
    (split_in h (take (2 ^ h) rs) (omega (arith, pow_pos h)) (omega arith))
    (split_in h (drop (2 ^ h) rs) (omega arith) (omega arith)))

pub split_some : SplitSome
split_some rs p = split_in _ rs p (height_holds (length rs))

pub split_long : {rs : List (List ℕ)} → Split rs → 1 ≤ length rs
split_long (one r) = omega arith
split_long (more rs m p l r) = omega (arith, p.below)
