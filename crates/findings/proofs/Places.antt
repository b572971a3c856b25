-- Laws of the first two records that differ: where there are none, the records are the same; else the index stands at their place, and those before
-- are the same.
use mathlib.Core.Logic.{◌≢◌}
use mathlib.Core.Path.{◌≡◌, refl, sym, ap₂, ◌∙◌}
use mathlib.Core.List.{List, [], ◌∷◌}
use Prim.Native.Nat.{ℕ, suc, ◌<◌}
use native.Mathlib.Omega.{arith}
use lib.ListN.{length, get_or, take}
use Rattle.wire.proofs.Differences.{differ_same, differ_other}
use Rattle.shape.specs.Difference.{decided}
use Rattle.findings.specs.Outcome.{nowhere, from, first_apart}

-- ---- the first of each list

module _ (i : ℕ) (is : List ℕ) (r : List ℕ) (rs : List (List ℕ)) (t : List ℕ) (ts : List (List ℕ)) where
  pub apart_next : r ≡ t → first_apart (i ∷ is) (r ∷ rs) (t ∷ ts) ≡ first_apart is rs ts
  unfolding first_apart
  apart_next e = rw (differ_same r t e, first_apart)

  pub apart_here : r ≢ t → first_apart (i ∷ is) (r ∷ rs) (t ∷ ts) ≡ from i
  unfolding first_apart
  apart_here e = rw (differ_other r t e, first_apart)

-- ---- none

pub apart_nowhere : (is : List ℕ) (rs ts : List (List ℕ)) → length rs ≡ length is → length ts ≡ length is → first_apart is rs ts ≡ nowhere → rs ≡ ts
apart_nowhere [] [] [] n m e = refl
apart_nowhere [] [] (t ∷ ts) n m e = absurd (omega arith)
apart_nowhere [] (r ∷ rs) ts n m e = absurd (omega arith)
apart_nowhere (i ∷ is) [] ts n m e = absurd (omega arith)
apart_nowhere (i ∷ is) (r ∷ rs) [] n m e = absurd (omega arith)
apart_nowhere (i ∷ is) (r ∷ rs) (t ∷ ts) n m e = elim (decided r t) [
  | yes q ↦
      ap₂ (λ (x : List ℕ) (xs : List (List ℕ)). x ∷ xs) q
      (apart_nowhere is rs ts (omega arith) (omega arith) (sym (apart_next i is r rs t ts q) ∙ e))
  | no q ↦ absurd (cc (apart_here i is r rs t ts q))
]

pub apart_same : (is : List ℕ) (rs : List (List ℕ)) → first_apart is rs rs ≡ nowhere
unfolding first_apart
apart_same [] rs = refl
apart_same (i ∷ is) [] = refl
apart_same (i ∷ is) (r ∷ rs) = apart_next i is r rs r rs refl ∙ apart_same is rs

-- ---- some

-- index i stands at a place where the records differ, and before it they are the same
pub record ApartAt (i : ℕ) (is : List ℕ) (rs ts : List (List ℕ)) : Type 0 where
  pub place : ℕ
  pub within : (place < length is) × (place < length rs) × (place < length ts)
  pub index : get_or is place 0 ≡ i
  pub other : get_or rs place [] ≢ get_or ts place []
  pub before : take place rs ≡ take place ts

pub apart_from : (i : ℕ) (is : List ℕ) (rs ts : List (List ℕ)) → first_apart is rs ts ≡ from i → ApartAt i is rs ts
unfolding first_apart
apart_from i [] rs ts e = absurd cc
apart_from i (j ∷ is) [] ts e = absurd cc
apart_from i (j ∷ is) (r ∷ rs) [] e = absurd cc
apart_from i (j ∷ is) (r ∷ rs) (t ∷ ts) e = elim (decided r t) [
  | yes q ↦
      let a = apart_from i is rs ts (sym (apart_next j is r rs t ts q) ∙ e) in
      record {
        place = suc a.place;
        within = (omega (arith, a.within.0), omega (arith, a.within.1), omega (arith, a.within.2));
        index = a.index;
        other = a.other;
        before = ap₂ (λ (x : List ℕ) (xs : List (List ℕ)). x ∷ xs) q a.before;
      }
  | no q ↦
      record {
        place = 0;
        within = (omega arith, omega arith, omega arith);
        index = cc (apart_here j is r rs t ts q);
        other = q;
        before = refl;
      }
]
