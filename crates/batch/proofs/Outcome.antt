-- The outcome of a batch, over any digest function: how each answer is reached, and by what was foreseen.
use mathlib.Core.Path.{◌≡◌, refl, sym, ap, subst, ◌∙◌}
use mathlib.Core.Logic.{by_cases, ◌≢◌}
use mathlib.Core.Bool.{Bool}
use mathlib.Core.List.{List, [], ◌∷◌}
use Prim.Native.Nat.{ℕ, ◌-◌}
use native.Mathlib.Decide.{ℕ_discrete}
use native.Mathlib.Nat.{le_of_eq}
use native.Mathlib.Omega.{arith}
use borrow.Author.Tests.{eq-eqb}
use lib.Dec.{eqb}
use lib.ListN.{length}
use Rattle.std.specs.Prelude.{Ok}
use Rattle.order.specs.Order.{◌if◌, ◌is◌, ◌is_not◌, ◌above◌}
use Rattle.order.proofs.Laws.{Step, refuses, passes, late}
use Rattle.shape.specs.Sizes.{count_answer}
use Rattle.shape.proofs.Counting.{Counts}
use Rattle.records.specs.Records.{total, cut}
use Rattle.evidence_log.specs.declared.Appended.{Appended}
use Rattle.evidence_log.specs.Outcome.{AppendOutcome, appended, append_refused}
use Rattle.evidence_log.specs.Appends.{run}
use Rattle.batch_foresight.specs.Foresight.{foresight}
use Rattle.batch_foresight.proofs.Foreseen.{foresight_sum, foresight_off}
use Rattle.batch.specs.Batch.{begun, met, hash_total, batch_order, batch_done, batch_outcome}
use Rattle.batch.specs.Steps.{Left}
use Rattle.batch.proofs.OneByOne.{run_counts}
use Rattle.batch.proofs.Foreseen.{foreseen_met}

module _ (digest : List ℕ → List ℕ) (size : ℕ) (whole lengths bs : List ℕ) where
  abbrev outcome : AppendOutcome
  outcome = batch_outcome digest size whole lengths bs

  -- the number that one by one meets
  abbrev pub meets : ℕ
  meets = met digest (begun size bs) (cut lengths whole)

  -- ---- how each answer is reached

  pub batch_1 : {r : AppendOutcome} → r ≡ append_refused size bs 1 → (count_answer size).number ≡ 1 → r ≡ outcome
  unfolding batch_outcome batch_order
  batch_1 e h = refuses 1 _ _ _ e (λ f. absurd (f h))

  module _ (known : (count_answer size).number ≢ 1) where
    pub batch_16 : {r : AppendOutcome} → r ≡ append_refused size bs 16 → total lengths ≢ length whole → r ≡ outcome
    unfolding batch_outcome batch_order
    batch_16 e h = refuses 16 _ _ _ e (known, λ f. absurd (h f))

    module _ (sum : total lengths ≡ length whole) where
      pub batch_met : {r : AppendOutcome} → r ≡ append_refused size bs meets → meets ≢ 0 → r ≡ outcome
      unfolding batch_outcome batch_order
      batch_met e h =
          let last : Step (eqb meets meets) (meets above 0) ⊥ =
          subst (λ (b : Bool). Step b (meets above 0) ⊥) (sym (eq-eqb meets meets refl)) (λ f. h (omega arith)) in
          late (append_refused size bs) (1 if (count_answer size).number is 1 ∷ 16 if total lengths is_not length whole ∷ [])
          (meets if meets above 0 ∷ [])
          (batch_done digest size whole lengths bs) (known, (sum, tt))
          (refuses meets (append_refused size bs) (meets if meets above 0 ∷ []) (batch_done digest size whole lengths bs) e last)

      pub batch_done_lem : {r : AppendOutcome} → r ≡ batch_done digest size whole lengths bs → meets ≡ 0 → r ≡ outcome
      unfolding batch_outcome batch_order
      batch_done_lem e z = passes _ _ _ e (known, (sum, (omega arith, tt)))

  -- ---- by what was foreseen

  module _ (digest_32 : (x : List ℕ) → length (digest x) ≡ 32) {n number : ℕ} (k : Counts size n)
      (e : number ≡ foresight (length whole) (length bs) n lengths) where
    known : (count_answer size).number ≢ 1
    known h = omega (arith, k.number)

    told : total lengths ≡ length whole → number ≡ meets
    told s =
        e ∙ foresight_sum (length whole) (length bs) n lengths s
        ∙ sym (foreseen_met digest digest_32 (begun size bs) n lengths whole k (le_of_eq s))

    -- a number: the refusal with it
    pub foreseen_refused : number ≢ 0 → {r : AppendOutcome} → r ≡ append_refused size bs number → r ≡ outcome
    foreseen_refused z f =
        by_cases (ℕ_discrete (total lengths) (length whole))
        (λ s. batch_met known s (f ∙ ap (append_refused size bs) (told s)) (λ y. z (told s ∙ y)))
        (λ s. batch_16 known (f ∙ ap (append_refused size bs) (e ∙ foresight_off (length whole) (length bs) n lengths s)) s)

    -- another than 16: the lengths add up
    pub foreseen_sum : number ≢ 16 → total lengths ≡ length whole
    foreseen_sum z =
        by_cases (ℕ_discrete (total lengths) (length whole)) (λ s. s)
        (λ s. absurd (z (e ∙ foresight_off (length whole) (length bs) n lengths s)))

    -- none: what appending one by one leaves is done
    pub foreseen_done : number ≡ 0 → {a : Appended} {last : List ℕ} → a.hashes ≡ a.size - size
        → Left (run digest (begun size bs) (cut lengths whole)) a.size last → appended size (Ok a) last ≡ outcome
    unfolding batch_done
    foreseen_done z {a} h l =
        let s = foreseen_sum (λ y. omega arith) in
        let t : a.hashes ≡ hash_total digest (begun size bs) (cut lengths whole) =
        omega (arith, l.size, run_counts digest (begun size bs) (cut lengths whole)) in
        batch_done_lem known s (λ i. record { number = 0; size = l.size i; hashes = t i; bytes = l.bytes i }) (sym (told s) ∙ z)
