-- The first difference of two lists of strings, and what it shows, over any digest function.
use Rattle.std.specs.Prelude.{◌≡◌, ◌≢◌, ℕ, length}
use mathlib.Core.List.{List, [], ◌∷◌, List-discrete}
use Rattle.std.proofs.Math.Decide.{ℕ_discrete}
use Rattle.shape.specs.Tree.{Tree, OnePlace}

-- two strings are equal or not
abbrev pub decided : (x y : List ℕ) → Dec (x ≡ y)
decided x y = List-discrete ℕ_discrete x y

-- one answer where a fact holds, another where it does not
abbrev pub whether : {P A : Type 0} → Dec P → A → A → A
whether (yes p) a b = a
whether (no p) a b = b

-- nothing differs; or the two strings that differ first
pub data Diff : Type 0 where
  agree : Diff
  unequal : List ℕ → List ℕ → Diff

-- the first difference of two lists of one length
unfoldable pub difference : List (List ℕ) → List (List ℕ) → Diff
difference [] ys = agree
difference (x ∷ xs) [] = agree
difference (x ∷ xs) (y ∷ ys) = whether (decided x y) (difference xs ys) (unequal x y)

module _ (digest : List ℕ → List ℕ) where
  -- two different strings of k bytes with one digest
  pub record Collision (k : ℕ) (a b : List ℕ) : Type 0 where
    pub first : length a ≡ k
    pub second : length b ≡ k
    pub apart : a ≢ b
    pub one : digest a ≡ digest b

  -- what a comparison of inputs shows: P where nothing differs, and otherwise a collision
  abbrev pub Shown : Type 0 → Diff → Type 0
  Shown P agree = P
  Shown P (unequal a b) = Collision 64 a b

  -- and of two trees' inputs: the collision stands at one place of both
  abbrev pub ShownAt : Tree → Tree → Type 0 → Diff → Type 0
  ShownAt t u P agree = P
  ShownAt t u P (unequal a b) = Collision 64 a b × OnePlace digest t u a b
