-- More laws of appending one by one, over any digest function: two lists, what is hashed, all taken, and two runs that go alike.
use mathlib.Core.Path.{◌≡◌, refl, sym, ap, ap₂, ◌∙◌}
use mathlib.Core.Logic.{by_cases, ◌≢◌}
use mathlib.Core.List.{List, [], ◌∷◌, ◌++◌, append_assoc, append-nil}
use Prim.Native.Nat.{ℕ, ◌+◌}
use native.Mathlib.Decide.{ℕ_discrete}
use native.Mathlib.Nat.{zero-add}
use native.Mathlib.Omega.{arith}
use lib.ListN.{length, length-append}
use Rattle.evidence_log.specs.Appends.{State, step, run}
use Rattle.evidence_log.specs.Hashed.{append_hashed, run_hashed}
use Rattle.evidence_log.proofs.Appends.{step_taken}
use Rattle.evidence_log.proofs.Hashed.{append_counts}
use Rattle.batch.specs.Batch.{next, met, hash_total}
use Rattle.batch.proofs.OneByOne.{met_here, met_later}

module _ (digest : List ℕ → List ℕ) where
  -- none is refused: so neither the first, nor the others
  pub met_none : (s : State) (r : List ℕ) (rs : List (List ℕ)) → met digest s (r ∷ rs) ≡ 0
      → ((next digest s r).number ≡ 0) × (met digest (step digest s r) rs ≡ 0)
  met_none s r rs z =
      by_cases (ℕ_discrete (next digest s r).number 0) (λ y. (y, sym (met_later digest s r rs y) ∙ z))
      (λ y. absurd (y (sym (met_here digest s r rs y) ∙ z)))

  -- ---- two lists, one after the other

  pub run_both : (s : State) (rs ts : List (List ℕ)) → run digest s (rs ++ ts) ≡ run digest (run digest s rs) ts
  unfolding run
  run_both s [] ts = refl
  run_both s (r ∷ rs) ts = run_both (step digest s r) rs ts

  pub met_both : (s : State) (rs ts : List (List ℕ)) → met digest s rs ≡ 0 → met digest s (rs ++ ts) ≡ met digest (run digest s rs) ts
  unfolding run
  met_both s [] ts z = refl
  met_both s (r ∷ rs) ts z = let m = met_none s r rs z in met_later digest s r (rs ++ ts) m.0 ∙ met_both (step digest s r) rs ts m.1

  pub met_earlier : (s : State) (rs ts : List (List ℕ)) → met digest s rs ≢ 0 → met digest s (rs ++ ts) ≡ met digest s rs
  unfolding met
  met_earlier s [] ts z = absurd (z refl)
  met_earlier s (r ∷ rs) ts z =
      by_cases (ℕ_discrete (next digest s r).number 0)
      (λ y.
      met_later digest s r (rs ++ ts) y
      ∙ met_earlier (step digest s r) rs ts (λ h. z (met_later digest s r rs y ∙ h))
      ∙ sym (met_later digest s r rs y))
      (λ y. met_here digest s r (rs ++ ts) y ∙ sym (met_here digest s r rs y))

  pub total_both : (s : State) (rs ts : List (List ℕ)) → hash_total digest s (rs ++ ts) ≡ hash_total digest s rs + hash_total digest (run digest s rs) ts
  unfolding hash_total run
  total_both s [] ts = sym (zero-add (hash_total digest s ts))
  total_both s (r ∷ rs) ts = omega (arith, total_both (step digest s r) rs ts)

  -- ---- what is hashed

  -- the count is that of the strings that are hashed
  pub total_hashed : (s : State) (rs : List (List ℕ)) → hash_total digest s rs ≡ length (run_hashed digest s rs)
  unfolding hash_total run_hashed
  total_hashed s [] = refl
  total_hashed s (r ∷ rs) =
      ap₂ (λ (a b : ℕ). a + b) (append_counts digest s.size r s.bytes) (total_hashed (step digest s r) rs)
      ∙ sym (length-append (append_hashed digest s.size r s.bytes) (run_hashed digest (step digest s r) rs))

  -- ---- where none is refused, all are taken

  pub run_takes : ((x : List ℕ) → length (digest x) ≡ 32) → (s : State) (rs : List (List ℕ)) → met digest s rs ≡ 0
      → (run digest s rs).taken ≡ s.taken ++ rs
  unfolding run
  run_takes digest_32 s [] z = sym (append-nil s.taken)
  run_takes digest_32 s (r ∷ rs) z =
      let m = met_none s r rs z in
      run_takes digest_32 (step digest s r) rs m.1
      ∙ ap (λ (t : State). t.taken ++ rs) (step_taken digest digest_32 s r (next digest s r) refl m.0)
      ∙ append_assoc s.taken (r ∷ []) rs

  -- ---- two runs that go alike: a relation of states that every append keeps, and that answers alike

  module _ (R : State → State → Type 0)
      (numbers : (s t : State) (r : List ℕ) → R s t → (next digest s r).number ≡ (next digest t r).number)
      (hashes : (s t : State) (r : List ℕ) → R s t → (next digest s r).hashes ≡ (next digest t r).hashes)
      (keeps : (s t : State) (r : List ℕ) → R s t → R (step digest s r) (step digest t r)) where
    pub run_alike : (s t : State) (rs : List (List ℕ)) → R s t → R (run digest s rs) (run digest t rs)
    unfolding run
    run_alike s t [] a = a
    run_alike s t (r ∷ rs) a = run_alike (step digest s r) (step digest t r) rs (keeps s t r a)

    pub met_alike : (s t : State) (rs : List (List ℕ)) → R s t → met digest s rs ≡ met digest t rs
    unfolding met
    met_alike s t [] a = refl
    met_alike s t (r ∷ rs) a =
        let n = numbers s t r a in
        by_cases (ℕ_discrete (next digest s r).number 0)
        (λ z.
        met_later digest s r rs z ∙ met_alike (step digest s r) (step digest t r) rs (keeps s t r a) ∙ sym (met_later digest t r rs (sym n ∙ z)))
        (λ z. met_here digest s r rs z ∙ n ∙ sym (met_here digest t r rs (λ h. z (n ∙ h))))

    pub total_alike : (s t : State) (rs : List (List ℕ)) → R s t → hash_total digest s rs ≡ hash_total digest t rs
    unfolding hash_total
    total_alike s t [] a = refl
    total_alike s t (r ∷ rs) a =
        ap₂ (λ (x y : ℕ). x + y) (hashes s t r a) (total_alike (step digest s r) (step digest t r) rs (keeps s t r a))
