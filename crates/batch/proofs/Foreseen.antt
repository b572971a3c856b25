-- The first refusal by numbers alone is the first that appending one by one meets, over any digest function with digests of 32 bytes.
use mathlib.Core.Path.{◌≡◌, refl, sym, ap, ◌∙◌}
use mathlib.Core.Logic.{by_cases}
use mathlib.Core.List.{List, [], ◌∷◌}
use Prim.Native.Nat.{ℕ, suc, ◌*◌, ◌^◌, ◌≤◌}
use native.Mathlib.Decide.{ℕ_discrete}
use native.Mathlib.Omega.{arith}
use borrow.Author.Tests.{eq-eqb, ne_eqb, lt-ltb, le-ltb}
use lib.Dec.{eqb, ltb}
use lib.ListN.{length, take, drop, length-drop}
use lib.Seq.{length-take-le}
use Rattle.order.specs.Order.{Refusal, ◌if◌, ◌is◌, ◌above◌, ◌under◌, first_number}
use Rattle.order.proofs.Laws.{first_next, verdict_test}
use Rattle.shape.specs.Sizes.{size_of, count_answer, leaves}
use Rattle.shape.proofs.Counting.{Counts}
use Rattle.records.specs.Records.{total, cut}
use Rattle.records.proofs.Sums.{total_cons}
use Rattle.evidence_log.specs.Outcome.{append_order}
use Rattle.evidence_log.specs.Appends.{State, step}
use Rattle.evidence_log.proofs.Told.{told_number}
use Rattle.batch_foresight.specs.Foresight.{one_order, foreseen}
use Rattle.batch_foresight.proofs.Foreseen.{or_here, or_later}
use Rattle.batch.specs.Batch.{next, met}
use Rattle.batch.proofs.Next.{next_more, next_long}
use Rattle.batch.proofs.OneByOne.{met_here, met_later}

-- one leaf too many: n is 2 ^ 32 already, or n + 1 is above it
full_alike : (n : ℕ) → n ≤ 2 ^ 32 → eqb n (2 ^ 32) ≡ ltb (2 ^ 32) (suc n)
full_alike n h =
    by_cases (ℕ_discrete n (2 ^ 32)) (λ e. eq-eqb n (2 ^ 32) e ∙ sym (lt-ltb (2 ^ 32) (suc n) (omega arith)))
    (λ e. ne_eqb n (2 ^ 32) e ∙ sym (le-ltb (2 ^ 32) (suc n) (omega arith)))

module _ (digest : List ℕ → List ℕ) where
  -- what an append to n leaves tests, by numbers alone
  number_by : (s : State) (n : ℕ) (r : List ℕ) → Counts s.size n
      → (next digest s r).number ≡ first_number (one_order (length s.bytes) (suc n) (length r))
  unfolding append_order first_number
  number_by s n r k =
      let b = length s.bytes in
      let later : ℕ → List Refusal = λ m. 2 if m is 2 ^ 32 ∷ 3 if length r above 16384 ∷ 4 if b under 32 * size_of (suc m) ∷ [] in
      told_number digest s.size r s.bytes
      ∙ first_next 1 ((count_answer s.size).number is 1) (later (leaves s.size)) (λ e. omega (arith, k.number))
      ∙ ap (λ (m : ℕ). first_number (later m)) k.value
      ∙ verdict_test (λ (m : ℕ). m) [] (3 if length r above 16384 ∷ 4 if b under 32 * size_of (suc n) ∷ []) 2 (n is 2 ^ 32) (suc n above 2 ^ 32) 0
      (full_alike n k.most)

  pub foreseen_met : ((x : List ℕ) → length (digest x) ≡ 32) → (s : State) (n : ℕ) (ks bs : List ℕ) → Counts s.size n → total ks ≤ length bs
      → met digest s (cut ks bs) ≡ foreseen (length s.bytes) n ks
  unfolding met foreseen cut step
  foreseen_met digest_32 s n [] bs c h = refl
  foreseen_met digest_32 s n (k ∷ ks) bs c h =
      let r = take k bs in
      let rs = cut ks (drop k bs) in
      let room = length s.bytes in
      let l : length r ≡ k = length-take-le k bs (omega (arith, total_cons k ks)) in
      let q : (next digest s r).number ≡ first_number (one_order room (suc n) k) =
      number_by s n r c ∙ ap (λ (x : ℕ). first_number (one_order room (suc n) x)) l in
      by_cases (ℕ_discrete (next digest s r).number 0)
      (λ z.
      let m = next_more digest s r z in
      let e : Counts (step digest s r).size (suc n) = rw c.value at m.counts in
      met_later digest s r rs z
      ∙ foreseen_met digest_32 (step digest s r) (suc n) ks (drop k bs) e (omega (arith, total_cons k ks, length-drop k bs))
      ∙ ap (λ (x : ℕ). foreseen x (suc n) ks) (next_long digest s r digest_32)
      ∙ sym (or_later (first_number (one_order room (suc n) k)) (foreseen room (suc n) ks) (sym q ∙ z)))
      (λ z.
      met_here digest s r rs z ∙ q ∙ sym (or_here (first_number (one_order room (suc n) k)) (foreseen room (suc n) ks) (λ y. z (q ∙ y))))
