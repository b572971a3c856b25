-- Each statement leaves one answer, and one content behind each pointer. Those of the writers are `write_left_only` of `kept`.
use mathlib.Core.Path.{◌≡◌, sym, ◌∙◌}
use mathlib.Core.List.{List}
use Prim.Native.Nat.{ℕ}
use Rattle.stored_c.specs.Nodes.{ReadLeft, read_left}

-- a stored node read: the number, the three result variables, and the output buffer
pub read_left_only : (x : ReadLeft) (m n j k s t a b : ℕ) (bs cs : List ℕ) → read_left m j bs s a ≡ x → read_left n k cs t b ≡ x
    → (m ≡ n) × (j ≡ k) × (bs ≡ cs) × (s ≡ t) × (a ≡ b)
read_left_only x m n j k s t a b bs cs p q =
    let e = p ∙ sym q in (λ i. (e i).number, λ i. (e i).kind, λ i. (e i).bytes, λ i. (e i).start, λ i. (e i).length)
