-- The first difference of two lists of strings: its equations, where there is none, and where the two strings come from.
use mathlib.Core.Path.{◌≡◌, refl, sym, ap, ◌∙◌}
use mathlib.Core.Logic.{◌≢◌}
use mathlib.Core.List.{List, [], ◌∷◌, ◌++◌, map, Mem, mem-cons_self, mem-cons_of_mem}
use Prim.Native.Nat.{ℕ}
use native.Mathlib.Nat.{suc_inj}
use native.Mathlib.Omega.{arith}
use lib.ListN.{length}
use Rattle.wire.specs.Slices.{Each}
use Rattle.shape.specs.Tree.{Tree}
use Rattle.shape.specs.Difference.{decided, whether, Diff, agree, unequal, difference, Shown, ShownAt}

whether_yes : {P A : Type 0} (d : Dec P) (a b : A) → P → whether d a b ≡ a
whether_yes (yes q) a b p = refl
whether_yes (no q) a b p = absurd (q p)

whether_no : {P A : Type 0} (d : Dec P) (a b : A) → ¬ P → whether d a b ≡ b
whether_no (yes q) a b p = absurd (p q)
whether_no (no q) a b p = refl

pub difference_same : (x y : List ℕ) (xs ys : List (List ℕ)) → x ≡ y → difference (x ∷ xs) (y ∷ ys) ≡ difference xs ys
unfolding difference
difference_same x y xs ys e = whether_yes (decided x y) (difference xs ys) (unequal x y) e

pub difference_other : (x y : List ℕ) (xs ys : List (List ℕ)) → x ≢ y → difference (x ∷ xs) (y ∷ ys) ≡ unequal x y
unfolding difference
difference_other x y xs ys e = whether_no (decided x y) (difference xs ys) (unequal x y) e

no_unequal : {A : Type 0} {a b : List ℕ} → agree ≡ unequal a b → A
no_unequal e = absurd (let z : ◌≡◌ {A = ℕ} 0 1 = cc in omega arith)

-- a list has no difference from itself
pub difference_none : (xs : List (List ℕ)) → difference xs xs ≡ agree
unfolding difference
difference_none [] = refl
difference_none (x ∷ xs) = difference_same x x xs xs refl ∙ difference_none xs

-- strings of k bytes that differ have k bytes
pub difference_each : (k : ℕ) (xs ys : List (List ℕ)) (a b : List ℕ) → Each k xs → Each k ys → difference xs ys ≡ unequal a b
    → (length a ≡ k) × (length b ≡ k)
unfolding difference
difference_each k [] ys a b p q e = no_unequal e
difference_each k (x ∷ xs) [] a b p q e = no_unequal e
difference_each k (x ∷ xs) (y ∷ ys) a b p q e = elim (decided x y) [
  | yes f ↦ difference_each k xs ys a b p.1 q.1 (sym (difference_same x y xs ys f) ∙ e)
  | no f ↦
      let g : unequal x y ≡ unequal a b = sym (difference_other x y xs ys f) ∙ e in
      let u : a ≡ x = cc in
      let v : b ≡ y = cc in
      (ap length u ∙ p.0, ap length v ∙ q.0)
]

-- what two functions give at the elements of one list differs first at one of them
pub difference_map : {A : Type 0} (f g : A → List ℕ) (ps : List A) (a b : List ℕ) → difference (map f ps) (map g ps) ≡ unequal a b
    → (p : A) × Mem p ps × (a ≡ f p) × (b ≡ g p)
unfolding difference
difference_map f g [] a b e = no_unequal e
difference_map f g (p ∷ ps) a b e = elim (decided (f p) (g p)) [
  | yes h ↦
      let w = difference_map f g ps a b (sym (difference_same (f p) (g p) (map f ps) (map g ps) h) ∙ e) in
      (w.0, mem-cons_of_mem p w.1, w.2, w.3)
  | no h ↦
      let k : unequal (f p) (g p) ≡ unequal a b = sym (difference_other (f p) (g p) (map f ps) (map g ps) h) ∙ e in
      (p, mem-cons_self, (cc), (cc))
]

module _ (digest : List ℕ → List ℕ) where
  pub shown_map : (P Q : Type 0) (d : Diff) → (P → Q) → Shown digest P d → Shown digest Q d
  shown_map P Q agree f s = f s
  shown_map P Q (unequal a b) f s = s

  pub shown_at_map : (t u : Tree) (P Q : Type 0) (d : Diff) → (P → Q) → ShownAt digest t u P d → ShownAt digest t u Q d
  shown_at_map t u P Q agree f s = f s
  shown_at_map t u P Q (unequal a b) f s = s

  -- two lists with one string of 64 bytes more in front
  pub shown_cons : (P : Type 0) (x y : List ℕ) (xs ys : List (List ℕ)) → length x ≡ 64 → length y ≡ 64 → digest x ≡ digest y
      → (x ≡ y → Shown digest P (difference xs ys)) → Shown digest P (difference (x ∷ xs) (y ∷ ys))
  shown_cons P x y xs ys m n h k = elim (decided x y) [
    | yes e ↦ rw (difference_same x y xs ys e) (k e)
    | no e ↦ rw (difference_other x y xs ys e) (record { first = m; second = n; apart = e; one = h })
  ]

  -- two lists joined
  pub shown_append : (P Q : Type 0) (xs ys us vs : List (List ℕ)) → length xs ≡ length ys → Shown digest Q (difference xs ys)
      → (Q → Shown digest P (difference us vs)) → Shown digest P (difference (xs ++ us) (ys ++ vs))
  unfolding difference
  shown_append P Q [] [] us vs n s k = k s
  shown_append P Q [] (y ∷ ys) us vs n s k = absurd (omega arith)
  shown_append P Q (x ∷ xs) [] us vs n s k = absurd (omega arith)
  shown_append P Q (x ∷ xs) (y ∷ ys) us vs n s k = elim (decided x y) [
    | yes e ↦
        rw (difference_same x y (xs ++ us) (ys ++ vs) e)
        (shown_append P Q xs ys us vs (suc_inj n) (rw (difference_same x y xs ys e) at s) k)
    | no e ↦ rw (difference_other x y (xs ++ us) (ys ++ vs) e) (rw (difference_other x y xs ys e) at s)
  ]
