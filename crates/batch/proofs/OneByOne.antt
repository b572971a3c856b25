-- Laws of appending one by one, over any digest function: a step, and the count.
use mathlib.Core.Path.{◌≡◌, sym}
use mathlib.Core.Logic.{◌≢◌}
use mathlib.Core.List.{List, [], ◌∷◌}
use Prim.Native.Nat.{ℕ, ◌+◌}
use native.Mathlib.Nat.{add-zero}
use native.Mathlib.Omega.{arith}
use borrow.Author.Tests.{eq-eqb, ne_eqb}
use Rattle.evidence_log.specs.Appends.{State, step, run}
use Rattle.batch.specs.Batch.{next, met, hash_total}
use Rattle.batch.proofs.Next.{next_counts}

module _ (digest : List ℕ → List ℕ) where
  module _ (s : State) (r : List ℕ) (rs : List (List ℕ)) where
    -- the first record is refused, or it is not
    pub met_here : (next digest s r).number ≢ 0 → met digest s (r ∷ rs) ≡ (next digest s r).number
    unfolding met
    met_here z = rw (ne_eqb (next digest s r).number 0 z, met)

    pub met_later : (next digest s r).number ≡ 0 → met digest s (r ∷ rs) ≡ met digest (step digest s r) rs
    unfolding met
    met_later z = rw (eq-eqb (next digest s r).number 0 z, met)

  -- the count is the new size minus the old
  pub run_counts : (s : State) (rs : List (List ℕ)) → (run digest s rs).size ≡ s.size + hash_total digest s rs
  unfolding run hash_total step
  run_counts s [] = sym (add-zero s.size)
  run_counts s (r ∷ rs) = omega (arith, next_counts digest s r, run_counts (step digest s r) rs)
