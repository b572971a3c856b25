-- The comparison of what nodes show with what a letter's tree hashes: how it goes by the two sides of a fork.
use mathlib.Core.Path.{◌≡◌, refl, sym, ap, ap₂, ◌∙◌}
use mathlib.Core.List.{List, [], ◌∷◌, ◌++◌}
use Prim.Native.Nat.{ℕ, suc, ◌+◌, ◌-◌, ◌^◌, ◌≤◌, ◌<◌}
use native.Mathlib.Nat.{suc_inj}
use native.Mathlib.Omega.{arith}
use lib.ListN.{length, length-append, drop}
use Rattle.shape.specs.Tree.{Tree, fork, root, inputs}
use Rattle.shape.specs.Positions.{behind}
use Rattle.shape.specs.Seen.{sides}
use Rattle.shape.specs.Difference.{decided, Diff, agree, unequal, difference}
use Rattle.shape.proofs.Difference.{difference_same, difference_other}
use Rattle.views.specs.View.{View, given, asked, both, givens, askeds, plant, plant_at, side}
use Rattle.views.specs.Shows.{seen_by}
use Rattle.views.specs.Compared.{or_else, apart}
use Rattle.views.proofs.Sides.{seen_fork}

-- ---- the first of two differences

pub apart_same : (x y : List ℕ) → x ≡ y → apart x y ≡ agree
unfolding difference
apart_same x y e = difference_same x y [] [] e

pub apart_other : (x y : List ℕ) → (x ≡ y → ⊥) → apart x y ≡ unequal x y
apart_other x y e = difference_other x y [] [] e

pub difference_cons : (x y : List ℕ) (xs ys : List (List ℕ)) → difference (x ∷ xs) (y ∷ ys) ≡ or_else (apart x y) (difference xs ys)
difference_cons x y xs ys = elim (decided x y) [
  | yes e ↦ rw (difference_same x y xs ys e, apart_same x y e)
  | no e ↦ rw (difference_other x y xs ys e, apart_other x y e)
]

pub difference_join : (xs ys us vs : List (List ℕ)) → length xs ≡ length ys
    → difference (xs ++ us) (ys ++ vs) ≡ or_else (difference xs ys) (difference us vs)
unfolding difference
difference_join [] [] us vs n = refl
difference_join [] (y ∷ ys) us vs n = absurd (omega arith)
difference_join (x ∷ xs) [] us vs n = absurd (omega arith)
difference_join (x ∷ xs) (y ∷ ys) us vs n = elim (decided x y) [
  | yes e ↦
      difference_same x y (xs ++ us) (ys ++ vs) e ∙ difference_join xs ys us vs (suc_inj n)
      ∙ ap (λ (d : Diff). or_else d (difference us vs)) (sym (difference_same x y xs ys e))
  | no e ↦
      difference_other x y (xs ++ us) (ys ++ vs) e
      ∙ ap (λ (d : Diff). or_else d (difference us vs)) (sym (difference_other x y xs ys e))
]

-- ---- as many strings on both sides

forks_in : View → ℕ
forks_in given = 0
forks_in asked = 0
forks_in (both l r) = suc (forks_in l + forks_in r)

module _ (digest : List ℕ → List ℕ) where
  plant_count : (v : View) (ds xs : List (List ℕ)) → length (inputs digest (plant v ds xs)) ≡ forks_in v
  unfolding forks_in
  plant_count given ds xs = refl
  plant_count asked ds xs = refl
  plant_count (both l r) ds xs =
      ap suc
      (length-append (inputs digest (plant l ds xs)) (inputs digest (plant r (drop (askeds l) ds) (drop (givens l) xs)))
      ∙ ap₂ (λ (x y : ℕ). x + y) (plant_count l ds xs) (plant_count r (drop (askeds l) ds) (drop (givens l) xs)))

  at_count : (leaf item : ℕ → List ℕ) (v : View) (i j : ℕ) → length (inputs digest (plant_at leaf item v i j)) ≡ forks_in v
  unfolding forks_in
  at_count leaf item given i j = refl
  at_count leaf item asked i j = refl
  at_count leaf item (both l r) i j =
      ap suc
      (length-append (inputs digest (plant_at leaf item l i j)) (inputs digest (plant_at leaf item r (i + askeds l) (j + givens l)))
      ∙ ap₂ (λ (x y : ℕ). x + y) (at_count leaf item l i j) (at_count leaf item r (i + askeds l) (j + givens l)))

  module _ (node : ℕ → List ℕ) where
    seen_count : (v : View) (n s : ℕ) → length (seen_by digest node v n s) ≡ forks_in v
    unfolding forks_in
    seen_count given n s = refl
    seen_count asked n s = refl
    seen_count (both l r) n s =
        let h = side n in
        ap suc
        (length-append (seen_by digest node l (2 ^ h) s) (seen_by digest node r (n - 2 ^ h) (behind h s))
        ∙ ap₂ (λ (x y : ℕ). x + y) (seen_count l (2 ^ h) s) (seen_count r (n - 2 ^ h) (behind h s)))

    pub seen_as_many : (v : View) (n s : ℕ) (ds xs : List (List ℕ)) → length (seen_by digest node v n s) ≡ length (inputs digest (plant v ds xs))
    seen_as_many v n s ds xs = seen_count v n s ∙ sym (plant_count v ds xs)

    -- at a fork: the two strings there, then the left side, then the right
    pub compared_fork : (l r : View) (h n s : ℕ) (t u : Tree) → 2 ^ h < n → n ≤ 2 ^ suc h
        → length (seen_by digest node l (2 ^ h) s) ≡ length (inputs digest t)
        → difference (seen_by digest node (both l r) n s) (inputs digest (fork t u))
        ≡ or_else (apart (sides digest node h n s) (root digest t ++ root digest u))
        (or_else (difference (seen_by digest node l (2 ^ h) s) (inputs digest t))
        (difference (seen_by digest node r (n - 2 ^ h) (behind h s)) (inputs digest u)))
    compared_fork l r h n s t u p q m =
        ap (λ (x : List (List ℕ)). difference x (inputs digest (fork t u))) (seen_fork digest node l r h n s p q)
        ∙ difference_cons _ _ _ _
        ∙ ap (or_else (apart _ _)) (difference_join _ _ _ _ m)

    pub compared_at : (leaf item : ℕ → List ℕ) (l r : View) (h n s i j : ℕ) → 2 ^ h < n → n ≤ 2 ^ suc h
        → difference (seen_by digest node (both l r) n s) (inputs digest (plant_at leaf item (both l r) i j))
        ≡ or_else (apart (sides digest node h n s)
        (root digest (plant_at leaf item l i j) ++ root digest (plant_at leaf item r (i + askeds l) (j + givens l))))
        (or_else (difference (seen_by digest node l (2 ^ h) s) (inputs digest (plant_at leaf item l i j)))
        (difference (seen_by digest node r (n - 2 ^ h) (behind h s)) (inputs digest (plant_at leaf item r (i + askeds l) (j + givens l)))))
    compared_at leaf item l r h n s i j p q =
        compared_fork l r h n s (plant_at leaf item l i j) (plant_at leaf item r (i + askeds l) (j + givens l)) p q
        (seen_count l (2 ^ h) s ∙ sym (at_count leaf item l i j))
