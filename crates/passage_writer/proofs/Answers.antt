-- The writer's answers: which refusal decides, and that none does.
use mathlib.Core.Path.{◌≡◌, sym, ap, ◌∙◌}
use mathlib.Core.Logic.{◌≢◌}
use mathlib.Core.List.{List, [], ◌∷◌}
use Prim.Native.Nat.{ℕ, ◌*◌, ◌≤◌, ◌<◌}
use native.Mathlib.Omega.{arith}
use lib.ListN.{length}
use Rattle.order.specs.Order.{Refusal, ◌if◌, ◌is◌, ◌under◌, first_number}
use Rattle.order.proofs.Laws.{Passes, refuses, passes, early, late, first_next}
use Rattle.wire.specs.Writers.{WriteOutcome, write_refused, write_done}
use Rattle.records.specs.Records.{cut}
use Rattle.shape.specs.Sizes.{count_answer, leaves}
use Rattle.shape.proofs.Counting.{Counts}
use Rattle.nodes.specs.Nodes.{node_in}
use Rattle.passage_writer.specs.Outcome.{our_passage, write_order, write_over, write_outcome}
use Rattle.passage_foresight.specs.Order.{foreseen_order}
use Rattle.passage_foresight.proofs.Parts.{foreseen_pass}

module _ (digest : List ℕ → List ℕ) (size : ℕ) (indexes records lengths bs out : List ℕ) where
  -- for m leaves, all refusals but the first and the last
  abbrev inner : ℕ → List Refusal
  inner m = foreseen_order digest (node_in bs) (length bs under 32 * size) m indexes records lengths

  -- all but the last, and the last
  abbrev front : List Refusal
  front = 1 if (count_answer size).number is 1 ∷ inner (leaves size)

  abbrev ours : List ℕ
  ours = our_passage digest size indexes (cut lengths records) (node_in bs)

  abbrev last : List Refusal
  last = 6 if length out under length ours ∷ []

  -- a size that has no leaf count
  pub by_size : {r : WriteOutcome} → (count_answer size).number ≡ 1 → r ≡ write_refused out 1
      → r ≡ write_outcome digest size indexes records lengths bs out
  unfolding write_outcome write_over write_order
  by_size k e = refuses 1 _ _ _ e (λ f. absurd (f k))

  module _ {n : ℕ} (k : Counts size n) where
    first : (count_answer size).number ≡ 1 → ⊥
    first e = omega (arith, k.number)

    -- one between the first and the last
    pub by_inner : {r : WriteOutcome} {met : ℕ}
        → met ≡ first_number (foreseen_order digest (node_in bs) (length bs under 32 * size) n indexes records lengths) → met ≢ 0
        → r ≡ write_refused out met → r ≡ write_outcome digest size indexes records lengths bs out
    unfolding write_outcome write_over write_order
    by_inner {met = met} m h e =
        let f : met ≡ first_number front =
        m ∙ ap (λ (x : ℕ). first_number (inner x)) (sym k.value) ∙ sym (first_next 1 ((count_answer size).number is 1) (inner (leaves size)) first) in
        early (write_refused out) front last (write_done ours out) (e ∙ ap (write_refused out) f) (λ z. h (f ∙ z))

    -- none of these: the output buffer is too short, or it is not
    module _ (z : 0 ≡ first_number (foreseen_order digest (node_in bs) (length bs under 32 * size) n indexes records lengths)) where
      pass : Passes front
      pass = (
        first,
        foreseen_pass (leaves size) indexes records lengths digest (node_in bs) (length bs under 32 * size)
            (ap (λ (x : ℕ). first_number (inner x)) k.value ∙ sym z),
      )

      pub by_room : {r : WriteOutcome} → length out < length (our_passage digest size indexes (cut lengths records) (node_in bs))
          → r ≡ write_refused out 6 → r ≡ write_outcome digest size indexes records lengths bs out
      unfolding write_outcome write_over write_order
      by_room h e =
          late (write_refused out) front last (write_done ours out) pass
          (refuses 6 (write_refused out) last (write_done ours out) e (λ f. absurd (omega arith)))

      pub by_none : {r : WriteOutcome} → length (our_passage digest size indexes (cut lengths records) (node_in bs)) ≤ length out
          → r ≡ write_done (our_passage digest size indexes (cut lengths records) (node_in bs)) out
          → r ≡ write_outcome digest size indexes records lengths bs out
      unfolding write_outcome write_over write_order
      by_none h e = late (write_refused out) front last (write_done ours out) pass (passes (write_refused out) last (write_done ours out) e (h, tt))
