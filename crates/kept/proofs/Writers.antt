-- How the call of a writer follows from the writer, and that its statement leaves one answer.
use mathlib.Core.Logic.{◌≢◌}
use mathlib.Core.Path.{◌≡◌, sym, ap, ◌∙◌}
use mathlib.Core.List.{List}
use Prim.Native.Nat.{ℕ}
use native.Mathlib.Omega.{arith}
use Rattle.std.specs.Prelude.{Result, Ok, Err}
use Rattle.refusals.specs.declared.Refused.{Refused}
use Rattle.refusals.specs.Numbers.{number_of, number_in}
use Rattle.refusals.proofs.Laws.{number_above}
use Rattle.wire.specs.Writers.{WriteOutcome, write_refused, wrote}
use Rattle.kept.specs.Kept.{value_or, write_left, write_call}
use Rattle.kept.proofs.Kept.{kept_done, kept_left}

module _ (outcome : WriteOutcome) (old : ℕ) (x : List ℕ) where
  abbrev write_number : WriteOutcome → ℕ
  write_number o = o.number

  -- a refusal leaves what was there; a done writer puts its length behind the pointer
  pub write_refused_lem : (n : ℕ) → write_refused x n ≡ outcome → n ≢ 0 → write_left n old x ≡ write_call outcome old
  unfolding write_call
  write_refused_lem n e k =
      ap (λ (o : WriteOutcome). write_left o.number old o.bytes) e ∙ sym (kept_left _ _ _ (λ z. k (ap write_number e ∙ z)))

  pub write_done_lem : (n : ℕ) → write_left 0 n x ≡ outcome → write_left 0 n x ≡ write_call outcome old
  unfolding write_call
  write_done_lem n e = e ∙ sym (kept_done _ _ _ (sym (ap write_number e)))

-- what `put` leaves of a writer's answer
pub write_put : (outcome : WriteOutcome) (old : ℕ) (r : Result ℕ Refused) (x : List ℕ) → wrote r x ≡ outcome
    → write_left (number_in r) (value_or old r) x ≡ write_call outcome old
write_put outcome old (Ok n) x e = write_done_lem outcome old x n e
write_put outcome old (Err why) x e = write_refused_lem outcome old x (number_of why) e (λ z. omega (arith, number_above why, z))

-- the number, the length variable, and the output buffer
pub write_left_only : (x : WriteOutcome) (m n l k : ℕ) (bs cs : List ℕ) → write_left m l bs ≡ x → write_left n k cs ≡ x
    → (m ≡ n) × (l ≡ k) × (bs ≡ cs)
write_left_only x m n l k bs cs p q = let e = p ∙ sym q in (λ i. (e i).number, λ i. (e i).length, λ i. (e i).bytes)
