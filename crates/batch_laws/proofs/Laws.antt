-- What a batch promises, over any digest function: the count, the run, what is written, the first refusal, the empty list, records by themselves, one
-- record.
use mathlib.Core.Path.{◌≡◌, refl, sym, ap, ◌∙◌}
use mathlib.Core.Logic.{by_cases, ◌≢◌}
use mathlib.Core.List.{List, [], ◌∷◌, map}
use Prim.Native.Nat.{ℕ, suc, ◌+◌, ◌*◌, ◌<◌}
use native.Mathlib.Decide.{ℕ_discrete}
use native.Mathlib.Nat.{add-zero}
use native.Mathlib.Omega.{arith}
use lib.ListN.{length, get_or, take}
use lib.Seq.{take-length}
use Rattle.order.proofs.Laws.{refuses}
use Rattle.wire.specs.Slices.{splice, joined}
use Rattle.shape.specs.Sizes.{count_answer}
use Rattle.records.specs.Records.{total, cut}
use Rattle.records.proofs.Sums.{total_none, total_cons}
use Rattle.records.proofs.Cuts.{joined_cut, joined_total}
use Rattle.evidence_log.specs.Outcome.{AppendOutcome, append_refused, append_order, append_over, append_outcome}
use Rattle.evidence_log.specs.Appends.{State, step, run}
use Rattle.evidence_log.proofs.Told.{told_refused}
use Rattle.batch.specs.Batch.{begun, next, met, hash_total, batch_done, batch_outcome}
use Rattle.batch.proofs.OneByOne.{met_here, met_later, run_counts}
use Rattle.batch_laws.proofs.Written.{news, run_writes}
use Rattle.batch.proofs.Outcome.{batch_done_lem}
use Rattle.batch_laws.proofs.Cases.{Cases, no_count, no_sum, one_refused, all_done, batch_cases}

pub number_of : {o p : AppendOutcome} → o ≡ p → o.number ≡ p.number
number_of e = ap (λ (x : AppendOutcome). x.number) e

-- ---- done, and refused

module _ (digest : List ℕ → List ℕ) (size : ℕ) (whole lengths bs : List ℕ) where
  -- what a batch that is done tells
  pub record Done : Type 0 where
    pub known : (count_answer size).number ≢ 1
    pub sum : total lengths ≡ length whole
    pub none : met digest (begun size bs) (cut lengths whole) ≡ 0
    pub is : batch_outcome digest size whole lengths bs ≡ batch_done digest size whole lengths bs

  done_or_refused : (Cases digest size whole lengths bs) → (batch_outcome digest size whole lengths bs).number ≡ 0 → Done
  done_or_refused (no_count c e) z = absurd (omega (arith, number_of e))
  done_or_refused (no_sum c s e) z = absurd (omega (arith, number_of e))
  done_or_refused (one_refused c s m e) z = absurd (m (sym (number_of e) ∙ z))
  done_or_refused (all_done c s m e) z = record { known = c; sum = s; none = m; is = e }

  -- the same size, node bytes and total hash count as appending one by one, none of which is refused
  pub batch_taken : (batch_outcome digest size whole lengths bs).number ≡ 0 → Done
  batch_taken z = done_or_refused (batch_cases digest size whole lengths bs) z

  refused_is : (Cases digest size whole lengths bs) → (batch_outcome digest size whole lengths bs).number ≢ 0
      → batch_outcome digest size whole lengths bs ≡ append_refused size bs (batch_outcome digest size whole lengths bs).number
  unfolding batch_done
  refused_is (no_count c e) z = e ∙ ap (append_refused size bs) (sym (number_of e))
  refused_is (no_sum c s e) z = e ∙ ap (append_refused size bs) (sym (number_of e))
  refused_is (one_refused c s m e) z = e ∙ ap (append_refused size bs) (sym (number_of e))
  refused_is (all_done c s m e) z = absurd (z (number_of e))

  -- refused: the size that was given, count 0, and nothing is written
  pub batch_refused : (batch_outcome digest size whole lengths bs).number ≢ 0
      → batch_outcome digest size whole lengths bs ≡ append_refused size bs (batch_outcome digest size whole lengths bs).number
  batch_refused z = refused_is (batch_cases digest size whole lengths bs) z

  -- the count is the new size minus the old
  pub batch_counts : (batch_outcome digest size whole lengths bs).size ≡ size + (batch_outcome digest size whole lengths bs).hashes
  unfolding batch_done
  batch_counts =
      by_cases (ℕ_discrete (batch_outcome digest size whole lengths bs).number 0)
      (λ z.
      let e = (batch_taken z).is in
      omega (
        arith,
        ap (λ (x : AppendOutcome). x.size) e,
        ap (λ (x : AppendOutcome). x.hashes) e,
        run_counts digest (begun size bs) (cut lengths whole),
      ))
      (λ z.
      let e = batch_refused z in
      omega (arith, ap (λ (x : AppendOutcome). x.size) e, ap (λ (x : AppendOutcome). x.hashes) e))

  -- what it writes: the digests of what appending one by one hashes, from byte 32 × size on
  pub batch_writes : (digest_32 : (x : List ℕ) → length (digest x) ≡ 32) → (batch_outcome digest size whole lengths bs).number ≡ 0
      → (batch_outcome digest size whole lengths bs).bytes ≡ splice (32 * size) (news digest digest_32 (begun size bs) (cut lengths whole)) bs
  unfolding batch_done
  batch_writes digest_32 z =
      let d = batch_taken z in
      ap (λ (x : AppendOutcome). x.bytes) d.is ∙ run_writes digest digest_32 (begun size bs) (cut lengths whole) d.none

-- an empty list with no bytes is done, count 0, whatever the buffer holds, at any size that a log has
pub batch_empty : (digest : List ℕ → List ℕ) (size : ℕ) (bs : List ℕ) → (count_answer size).number ≢ 1
    → batch_outcome digest size [] [] bs ≡ record { number = 0; size = size; hashes = 0; bytes = bs }
unfolding batch_done cut met hash_total run
batch_empty digest size bs known = sym (batch_done_lem digest size [] [] bs known total_none refl refl)

-- the number behind 1 and 16 is that of the first record that one by one would refuse: those before it are taken
pub met_first : (digest : List ℕ → List ℕ) (s : State) (rs : List (List ℕ)) → met digest s rs ≢ 0
    → (i : ℕ) × (i < length rs) × (met digest s (take i rs) ≡ 0) × ((next digest (run digest s (take i rs)) (get_or rs i [])).number ≡ met digest s rs)
unfolding met run
met_first digest s [] z = absurd (z refl)
met_first digest s (r ∷ rs) z =
    by_cases (ℕ_discrete (next digest s r).number 0)
    (λ y.
    let e = met_later digest s r rs y in
    let t = met_first digest (step digest s r) rs (λ q. z (e ∙ q)) in
    (suc t.0, omega (arith, t.1), met_later digest s r (take t.0 rs) y ∙ t.2, t.3 ∙ sym e))
    (λ y. (0, omega arith, refl, sym (met_here digest s r rs y)))

-- ---- records by themselves, and one of them

-- records joined together with their own lengths: done where one by one refuses none, with what that leaves
pub batch_records : (digest : List ℕ → List ℕ) (size : ℕ) (rs : List (List ℕ)) (bs : List ℕ) → (count_answer size).number ≢ 1
    → met digest (begun size bs) rs ≡ 0
    → let s = run digest (begun size bs) rs in
    batch_outcome digest size (joined rs) (map length rs) bs
    ≡ record { number = 0; size = s.size; hashes = hash_total digest (begun size bs) rs; bytes = s.bytes }
unfolding batch_done
batch_records digest size rs bs known z =
    let c = joined_cut rs in
    let s = begun size bs in
    sym (batch_done_lem digest size (joined rs) (map length rs) bs known (joined_total rs) refl (ap (met digest s) c ∙ z))
    ∙ (λ i. record { number = 0; size = (run digest s (c i)).size; hashes = hash_total digest s (c i); bytes = (run digest s (c i)).bytes })

module _ (digest : List ℕ → List ℕ) (size : ℕ) (r bs : List ℕ) where
  alone : cut (length r ∷ []) r ≡ r ∷ []
  unfolding cut
  alone = ap (λ (x : List ℕ). x ∷ []) (take-length r)

  -- what one by one meets is what the append answers
  met_alone : met digest (begun size bs) (cut (length r ∷ []) r) ≡ (append_outcome digest size r bs).number
  unfolding met
  met_alone =
      ap (met digest (begun size bs)) alone
      ∙ by_cases (ℕ_discrete (append_outcome digest size r bs).number 0)
      (λ z. met_later digest (begun size bs) r [] z ∙ sym z)
      (λ z. met_here digest (begun size bs) r [] z)

  no_size : (count_answer size).number ≡ 1 → append_refused size bs 1 ≡ append_outcome digest size r bs
  unfolding append_outcome append_over append_order
  no_size c = refuses 1 _ _ _ refl (λ f. absurd (f c))

  one_done : (append_outcome digest size r bs).number ≡ 0 → batch_done digest size r (length r ∷ []) bs ≡ append_outcome digest size r bs
  unfolding batch_done run step hash_total
  one_done z =
      let o = append_outcome digest size r bs in
      let s = begun size bs in
      let h : o.hashes + 0 ≡ o.hashes = add-zero o.hashes in
      (λ i. record {
        number = 0;
        size = (run digest s (alone i)).size;
        hashes = hash_total digest s (alone i);
        bytes = (run digest s (alone i)).bytes;
      })
      ∙ (λ i. record { number = sym z i; size = o.size; hashes = h i; bytes = o.bytes })

  one_by : Cases digest size r (length r ∷ []) bs → batch_outcome digest size r (length r ∷ []) bs ≡ append_outcome digest size r bs
  one_by (no_count c e) = e ∙ no_size c
  one_by (no_sum c s e) = absurd (s (total_cons (length r) [] ∙ omega (arith, total_none)))
  one_by (one_refused c s m e) =
      e ∙ ap (append_refused size bs) met_alone ∙ sym (told_refused digest size r bs (λ z. m (met_alone ∙ z)))
  one_by (all_done c s m e) = e ∙ one_done (sym met_alone ∙ m)

  -- a batch of one record is an append
  pub batch_one : batch_outcome digest size r (length r ∷ []) bs ≡ append_outcome digest size r bs
  batch_one = one_by (batch_cases digest size r (length r ∷ []) bs)
