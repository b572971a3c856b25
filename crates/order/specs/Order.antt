-- The refusal order: the first refusal whose test applies gives the number.
-- An order is a list, `3 if length rec above 16384 ∷ 6 if length out under (37 + length rec) ∷ []`; parts that orders share are appended.
use Rattle.std.specs.Prelude.{Bool, true, false, not, List, [], ◌∷◌, ℕ, ltb, leb, eqb}

-- a test of two numbers
infix 69 ◌under◌ ◌above◌ ◌not_below◌ ◌is◌ ◌is_not◌
pub data Test : Type 0 where
  ◌under◌ ◌above◌ ◌not_below◌ ◌is◌ ◌is_not◌ : ℕ → ℕ → Test

-- whether a test applies
abbrev pub applies : Test → Bool
applies (a under b) = ltb a b
applies (a above b) = ltb b a
applies (a not_below b) = leb b a
applies (a is b) = eqb a b
applies (a is_not b) = not (eqb a b)

-- a number that a call answers if its test applies
infix 68 ◌if◌
pub data Refusal : Type 0 where
  ◌if◌ : ℕ → Test → Refusal

-- what a call answers: `refused` with the number of the first refusal that applies, and `done` where none does
unfoldable pub verdict : {X : Type 0} → (ℕ → X) → List Refusal → X → X
verdict refused [] done = done
verdict refused (number if test ∷ later) done =
    elim (applies test) [ true ↦ refused number | false ↦ verdict refused later done ]

-- the number that a call answers: 0 where it is done
unfoldable pub first_number : List Refusal → ℕ
unfolding verdict
first_number order = verdict (λ number. number) order 0
