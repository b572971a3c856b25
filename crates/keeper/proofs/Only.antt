-- Each statement leaves one answer, and one content behind each pointer.
use mathlib.Core.Path.{◌≡◌, sym, ◌∙◌}
use mathlib.Core.List.{List}
use Prim.Native.Nat.{ℕ}
use Rattle.shape.specs.Answers.{Answer}
use Rattle.evidence_log.specs.Outcome.{AppendOutcome}
use Rattle.keeper.specs.Calls.{answered, append_left}

-- sizes, positions and counts: the number, and the result variable
pub answered_only : (x : Answer) (m n v w : ℕ) → answered m v ≡ x → answered n w ≡ x → (m ≡ n) × (v ≡ w)
answered_only x m n v w p q = let e = p ∙ sym q in (λ i. (e i).number, λ i. (e i).value)

-- an append: the number, the two result variables, and the nodes
pub append_only : (x : AppendOutcome) (m n s t h k : ℕ) (bs cs : List ℕ) → append_left m s h bs ≡ x → append_left n t k cs ≡ x
    → (m ≡ n) × (s ≡ t) × (h ≡ k) × (bs ≡ cs)
append_only x m n s t h k bs cs p q = let e = p ∙ sym q in (λ i. (e i).number, λ i. (e i).size, λ i. (e i).hashes, λ i. (e i).bytes)
