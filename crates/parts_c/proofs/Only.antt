-- Each statement leaves one answer, and one content behind each pointer. That of the end is `filled_only` of `kept`.
use mathlib.Core.Path.{◌≡◌, sym, ◌∙◌}
use Prim.Native.Nat.{ℕ}
use Rattle.parts.specs.declared.Parts.{Parts}
use Rattle.parts_c.specs.Parts.{PartsLeft, parts_left}

-- a digest in parts begun, or a part more: the number, and the state
pub parts_left_only : (x : PartsLeft) (m n : ℕ) (s t : Parts) → parts_left m s ≡ x → parts_left n t ≡ x → (m ≡ n) × (s ≡ t)
parts_left_only x m n s t p q = let e = p ∙ sym q in (λ i. (e i).number, λ i. (e i).state)
