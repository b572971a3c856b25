-- Two laws of lists of anything: what a slice is from a place to its end, and that a list of no length is empty.
use mathlib.Core.Path.{◌≡◌, refl}
use mathlib.Core.List.{List, [], ◌∷◌}
use Prim.Native.Nat.{ℕ, ◌-◌}
use native.Mathlib.Nat.{le_of_eq}
use native.Mathlib.Omega.{arith}
use lib.ListN.{length, take, drop, length-drop}
use lib.Seq.{take_all}

module _ {A : Type 0} where
  -- a slice from place k on, as code has it
  pub rest_all : (k : ℕ) (xs : List A) → take (length xs - k) (drop k xs) ≡ drop k xs
  rest_all k xs = take_all (length xs - k) (drop k xs) (le_of_eq (length-drop k xs))

  pub none_of : (xs : List A) → length xs ≡ 0 → xs ≡ []
  none_of [] e = refl
  none_of (x ∷ xs) e = absurd (omega arith)
