-- The statement of the reader leaves one answer: the outcome tells any two apart.
use mathlib.Core.Path.{◌≡◌, refl, sym, ap, ◌∙◌}
use Prim.Native.Nat.{ℕ}
use mathlib.Core.List.{List}
use Rattle.std.specs.Prelude.{Result}
use Rattle.refusals.specs.declared.Refused.{Refused}
use Rattle.refusals.proofs.Laws.{outcome_apart}
use Rattle.wire.specs.Slices.{zeros}
use Rattle.order.proofs.Laws.{determined}
use Rattle.stored.specs.declared.Node.{Node}
use Rattle.stored.specs.declared.Node.TheVariants.{Inner, Leaf}
use Rattle.stored.specs.declared.Reading.{Reading}
use Rattle.stored.specs.Read.{Kind, none, inner, leaf, ReadOutcome, read_refused, values_of, read_off}

-- the node with this kind and length
case_of : Kind → ℕ → Node
case_of none length = Inner
case_of inner length = Inner
case_of leaf length = Leaf length

-- the node that was read, by its outcome
answer : ReadOutcome → Reading
answer o = record { node = case_of o.kind o.length; digest = o.digest }

answer_case : (node : Node) (digest : List ℕ) → answer (values_of node digest) ≡ record { node = node; digest = digest }
unfolding answer case_of
answer_case Inner digest = refl
answer_case (Leaf n) digest = refl

-- what was read is done
pub done_number : (node : Node) (digest : List ℕ) → (values_of node digest).number ≡ 0
done_number Inner digest = refl
done_number (Leaf n) digest = refl

-- the reader's answer
pub read_only : (outcome : ReadOutcome) {r s : Result Reading Refused} → read_off r ≡ outcome → read_off s ≡ outcome → r ≡ s
read_only =
    determined read_off
    (outcome_apart (read_refused (zeros 32)) (λ r. values_of r.node r.digest) (λ o. o.number) (λ n. refl) (λ r. done_number r.node r.digest)
    (λ r s e. sym (answer_case r.node r.digest) ∙ ap answer e ∙ answer_case s.node s.digest))
