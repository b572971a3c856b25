-- A letter that is accepted: what each test of the order says of it, and that nothing else is needed.
use mathlib.Core.Path.{◌≡◌, refl, sym}
use mathlib.Core.Logic.{by_cases}
use mathlib.Core.List.{List}
use Prim.Native.Nat.{ℕ, ◌+◌, ◌≤◌}
use native.Mathlib.Decide.{ℕ_discrete}
use native.Mathlib.Omega.{arith}
use lib.Dec.{T}
use lib.ListN.{length}
use Rattle.order.proofs.Laws.{numbered, accepted, passes, refusal}
use Rattle.shape.specs.Sizes.{count_answer, leaves}
use Rattle.letter.specs.Checking.{behind_order, fields_order, from7}
use Rattle.letter.proofs.Fits.{Fits, pass_fits, fits_pass}
use Rattle.letter_checker.specs.Outcome.{CheckOutcome, check_refused, check_done, check_order, check_outcome}

module _ (digest : List ℕ → List ℕ) (size : ℕ) (root letter : List ℕ) where
  -- none of the order's tests applies
  pub record Accepted : Type 0 where
    pub counted : (count_answer size).number ≡ 1 → ⊥
    pub wide : length root ≡ 32
    pub fits : Fits digest size (leaves size) root letter

  -- every number is above 0
  pub check_numbered : T (numbered (check_order digest size root letter))
  unfolding check_order from7 fields_order behind_order
  check_numbered = tt

  -- the number 0 says so, and the outcome is then the done one
  pub accepted_of : (check_outcome digest size root letter).number ≡ 0 → Accepted × (check_outcome digest size root letter ≡ check_done letter)
  unfolding check_outcome check_order
  accepted_of z =
      let a =
      accepted (λ (o : CheckOutcome). o.number) check_refused (check_order digest size root letter) (check_done letter) (λ n. refl) refl refl
      check_numbered z in
      let p = a.0 in
      (record { counted = p.0; wide = p.1.0; fits = pass_fits digest size (leaves size) root letter p.1.1 }, a.1)

  pub accepts : Accepted → check_outcome digest size root letter ≡ check_done letter
  unfolding check_outcome check_order
  accepts a =
      sym (passes check_refused (check_order digest size root letter) (check_done letter) refl
      (a.counted, (a.wide, fits_pass digest size (leaves size) root letter a.fits)))

  -- the record lies within the letter, also the empty one of a refusal
  pub record_within : (check_outcome digest size root letter).start + (check_outcome digest size root letter).length ≤ length letter
  unfolding check_outcome
  record_within =
      by_cases (ℕ_discrete (check_outcome digest size root letter).number 0)
      (λ z. let a = accepted_of z in rw a.1 (omega (arith, a.0.fits.exact)))
      (λ z.
      let e : check_outcome digest size root letter ≡ check_refused (check_outcome digest size root letter).number =
      refusal (λ (o : CheckOutcome). o.number) check_refused (check_order digest size root letter) (check_done letter) (λ n. refl) refl refl z in
      rw e (omega arith))
