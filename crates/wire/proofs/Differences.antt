-- Laws of a comparison: 0 exactly where two runs are the same, else 1.
use mathlib.Core.Logic.{◌≢◌}
use mathlib.Core.Path.{◌≡◌, refl}
use mathlib.Core.List.{List, List-discrete}
use Prim.Native.Nat.{ℕ}
use native.Mathlib.Decide.{ℕ_discrete}
use native.Mathlib.Omega.{arith}
use Rattle.wire.specs.Slices.{differ}

module _ (a b : List ℕ) where
  data Compared : Type 0 where
    same : a ≡ b → differ a b ≡ 0 → Compared
    other : a ≢ b → differ a b ≡ 1 → Compared

  by : (d : Dec (a ≡ b)) → List-discrete ℕ_discrete a b ≡ d → Compared
  unfolding differ
  by (yes e) p = same e (rw (p, differ))
  by (no e) p = other e (rw (p, differ))

  compared : Compared
  compared = by (List-discrete ℕ_discrete a b) refl

  pub differ_same : a ≡ b → differ a b ≡ 0
  differ_same e = elim compared [ same f z ↦ z | other f z ↦ absurd (f e) ]

  pub differ_other : a ≢ b → differ a b ≡ 1
  differ_other e = elim compared [ same f z ↦ absurd (e f) | other f z ↦ z ]

  pub same_of_differ : differ a b ≡ 0 → a ≡ b
  same_of_differ e = elim compared [ same f z ↦ f | other f z ↦ absurd (omega arith) ]
