-- Two batches one after the other are one batch of both lists, over any digest function.
use mathlib.Core.Path.{◌≡◌, refl, sym, ap, ap₂, ◌∙◌}
use mathlib.Core.Logic.{◌≢◌}
use mathlib.Core.List.{List, [], ◌∷◌, ◌++◌}
use Prim.Native.Nat.{ℕ, ◌+◌}
use native.Mathlib.Omega.{arith}
use borrow.Author.Tests.{eq-eqb, ne_eqb}
use lib.ListN.{length, length-append}
use Rattle.shape.specs.Sizes.{count_answer}
use Rattle.records.specs.Records.{total, cut}
use Rattle.records.proofs.Sums.{total_append}
use Rattle.records.proofs.Cuts.{cut_both}
use Rattle.evidence_log.specs.Outcome.{AppendOutcome, append_refused}
use Rattle.evidence_log.specs.Appends.{State, step, run}
use Rattle.batch.specs.Batch.{begun, met, hash_total, batch_done, batch_outcome}
use Rattle.batch_laws.specs.Calls.{afterwards}
use Rattle.batch.proofs.Next.{next_more}
use Rattle.batch_laws.proofs.Runs.{met_none, run_both, met_both, met_earlier, total_both}
use Rattle.batch_laws.proofs.Same.{Same, same_run, same_met, same_total}
use Rattle.batch.proofs.Outcome.{batch_1, batch_met, batch_done_lem}
use Rattle.batch_laws.proofs.Cases.{Cases, no_count, no_sum, one_refused, all_done, batch_cases}
use Rattle.batch_laws.proofs.Laws.{number_of}

-- a size that a log has stays one
run_known : (digest : List ℕ → List ℕ) (s : State) (rs : List (List ℕ)) → met digest s rs ≡ 0
    → (count_answer s.size).number ≢ 1 → (count_answer (run digest s rs).size).number ≢ 1
unfolding run step
run_known digest s [] z h = h
run_known digest s (r ∷ rs) z h =
    let m = met_none digest s r rs z in
    run_known digest (step digest s r) rs m.1 (λ e. omega (arith, (next_more digest s r m.0).counts.number))

-- ---- what both leave, by the two numbers

after_refused : (size : ℕ) (bs : List ℕ) (o p : AppendOutcome) → o.number ≢ 0 → afterwards size bs o p ≡ o
unfolding afterwards
after_refused size bs o p z = rw (ne_eqb o.number 0 z, afterwards)

after_later : (size : ℕ) (bs : List ℕ) (o p : AppendOutcome) → o.number ≡ 0 → p.number ≢ 0
    → afterwards size bs o p ≡ append_refused size bs p.number
unfolding afterwards
after_later size bs o p z y = rw (eq-eqb o.number 0 z, ne_eqb p.number 0 y, afterwards)

after_done : (size : ℕ) (bs : List ℕ) (o p : AppendOutcome) → o.number ≡ 0 → p.number ≡ 0
    → afterwards size bs o p ≡ record { number = 0; size = p.size; hashes = o.hashes + p.hashes; bytes = p.bytes }
unfolding afterwards
after_done size bs o p z y = rw (eq-eqb o.number 0 z, eq-eqb p.number 0 y, afterwards)

-- ---- the two batches, and the one

module _ (digest : List ℕ → List ℕ) (size : ℕ) (xs js ys ks bs : List ℕ) (sj : total js ≡ length xs) (sk : total ks ≡ length ys) where
  abbrev first : AppendOutcome
  first = batch_outcome digest size xs js bs

  abbrev second : AppendOutcome
  second = batch_outcome digest first.size ys ks first.bytes

  abbrev whole : AppendOutcome
  whole = batch_outcome digest size (xs ++ ys) (js ++ ks) bs

  sum : total (js ++ ks) ≡ length (xs ++ ys)
  sum = total_append js ks ∙ ap₂ (λ (a b : ℕ). a + b) sj sk ∙ sym (length-append xs ys)

  cuts : cut (js ++ ks) (xs ++ ys) ≡ cut js xs ++ cut ks ys
  cuts = cut_both js ks xs ys sj

  module _ (known : (count_answer size).number ≢ 1) where
    -- the first is refused
    earlier : (m : ℕ) → met digest (begun size bs) (cut js xs) ≡ m → m ≢ 0 → whole ≡ append_refused size bs m
    earlier m e z =
        let f : met digest (begun size bs) (cut (js ++ ks) (xs ++ ys)) ≡ m =
        ap (met digest (begun size bs)) cuts ∙ met_earlier digest (begun size bs) (cut js xs) (cut ks ys) (λ h. z (sym e ∙ h)) ∙ e in
        sym (batch_met digest size (xs ++ ys) (js ++ ks) bs known sum (ap (append_refused size bs) (sym f)) (λ h. z (sym f ∙ h)))

    -- the first is done, and then the second
    module _ (z : met digest (begun size bs) (cut js xs) ≡ 0) (e : first ≡ batch_done digest size xs js bs) where
      abbrev between : State
      between = run digest (begun size bs) (cut js xs)

      same : Same between (begun first.size first.bytes)
      unfolding batch_done
      same = (sym (ap (λ (x : AppendOutcome). x.size) e), sym (ap (λ (x : AppendOutcome). x.bytes) e))

      met_on : met digest (begun size bs) (cut (js ++ ks) (xs ++ ys)) ≡ met digest (begun first.size first.bytes) (cut ks ys)
      met_on =
          ap (met digest (begun size bs)) cuts ∙ met_both digest (begun size bs) (cut js xs) (cut ks ys) z
          ∙ same_met digest between (begun first.size first.bytes) (cut ks ys) same

      zero : first.number ≡ 0
      unfolding batch_done
      zero = number_of e

      later : Cases digest first.size ys ks first.bytes → whole ≡ afterwards size bs first second
      unfolding batch_done
      later (no_count c f) =
          absurd (run_known digest (begun size bs) (cut js xs) z known (ap (λ (x : ℕ). (count_answer x).number) same.0 ∙ c))
      later (no_sum c s f) = absurd (s sk)
      later (one_refused c s m f) =
          let n = number_of f in
          sym (batch_met digest size (xs ++ ys) (js ++ ks) bs known sum refl (λ h. m (sym met_on ∙ h)))
          ∙ ap (append_refused size bs) (met_on ∙ sym n)
          ∙ sym (after_later size bs first second zero (λ h. m (sym n ∙ h)))
      later (all_done c s m f) =
          let r = run digest (begun size bs) (cut (js ++ ks) (xs ++ ys)) in
          let t = same_run digest between (begun first.size first.bytes) (cut ks ys) same in
          let u : r ≡ run digest between (cut ks ys) =
          ap (run digest (begun size bs)) cuts ∙ run_both digest (begun size bs) (cut js xs) (cut ks ys) in
          let a : r.size ≡ second.size = ap (λ (x : State). x.size) u ∙ t.0 ∙ sym (ap (λ (x : AppendOutcome). x.size) f) in
          let b : r.bytes ≡ second.bytes = ap (λ (x : State). x.bytes) u ∙ t.1 ∙ sym (ap (λ (x : AppendOutcome). x.bytes) f) in
          let h : hash_total digest (begun size bs) (cut (js ++ ks) (xs ++ ys)) ≡ first.hashes + second.hashes =
          ap (hash_total digest (begun size bs)) cuts ∙ total_both digest (begun size bs) (cut js xs) (cut ks ys)
          ∙ ap₂ (λ (x y : ℕ). x + y) (sym (ap (λ (x : AppendOutcome). x.hashes) e))
          (same_total digest between (begun first.size first.bytes) (cut ks ys) same ∙ sym (ap (λ (x : AppendOutcome). x.hashes) f)) in
          sym (batch_done_lem digest size (xs ++ ys) (js ++ ks) bs known sum refl (met_on ∙ m))
          ∙ (λ i. record { number = 0; size = a i; hashes = h i; bytes = b i })
          ∙ sym (after_done size bs first second zero (number_of f))

  both_by : Cases digest size xs js bs → whole ≡ afterwards size bs first second
  both_by (no_count c e) =
      sym (batch_1 digest size (xs ++ ys) (js ++ ks) bs refl c) ∙ sym e
      ∙ sym (after_refused size bs first second (λ z. omega (arith, number_of e)))
  both_by (no_sum c s e) = absurd (s sj)
  both_by (one_refused c s m e) =
      earlier c (met digest (begun size bs) (cut js xs)) refl m ∙ sym e ∙ sym (after_refused size bs first second (λ z. m (sym (number_of e) ∙ z)))
  both_by (all_done c s m e) = later c m e (batch_cases digest first.size ys ks first.bytes)

  -- two batches one after the other are one batch of both lists
  pub batch_both : batch_outcome digest size (xs ++ ys) (js ++ ks) bs ≡ afterwards size bs (batch_outcome digest size xs js bs)
      (batch_outcome digest (batch_outcome digest size xs js bs).size ys ks (batch_outcome digest size xs js bs).bytes)
  batch_both = both_by (batch_cases digest size xs js bs)
