-- What a batch does depends on the buffer's length and on its bytes below 32 × size only, over any digest function with digests of 32 bytes.
use mathlib.Core.Path.{◌≡◌, refl, sym, ap, ap₂, subst, ◌∙◌}
use mathlib.Core.Logic.{by_cases}
use mathlib.Core.List.{List, [], ◌∷◌, ◌++◌}
use Prim.Native.Nat.{ℕ, ◌+◌, ◌*◌}
use native.Mathlib.Decide.{ℕ_discrete}
use native.Mathlib.Omega.{arith}
use lib.ListN.{length, take}
use Rattle.order.specs.Order.{◌if◌, ◌is◌, ◌is_not◌, ◌above◌, first_number}
use Rattle.order.proofs.Laws.{number_is}
use Rattle.wire.specs.Slices.{splice, part, joined}
use Rattle.wire.proofs.Splices.{splice_through, part_splice}
use Rattle.shape.specs.Sizes.{count_answer}
use Rattle.records.specs.Records.{total, cut}
use Rattle.evidence_log.specs.Outcome.{AppendOutcome, append_refused, append_outcome}
use Rattle.evidence_log.specs.Appends.{State, step}
use Rattle.evidence_log.specs.Hashed.{run_hashed}
use Rattle.evidence_log.proofs.Told.{told_refused}
use Rattle.evidence_log.proofs.Hashed.{append_writes}
use Rattle.evidence_log.proofs.Local.{Alike, alike_refused, append_local}
use Rattle.batch.specs.Batch.{begun, next, met, batch_order, batch_done, batch_outcome}
use Rattle.batch.proofs.Next.{hashed_length, next_more, new, new_long, next_long}
use Rattle.batch.proofs.OneByOne.{run_counts}
use Rattle.batch_laws.proofs.Runs.{met_none, total_hashed, run_alike, met_alike, total_alike}
use Rattle.batch_laws.proofs.Written.{news, news_next}
use Rattle.batch_laws.proofs.Laws.{batch_taken, batch_refused, batch_writes}

-- states that agree: one size, and buffers of one length with the same bytes below 32 × size
record Agree (s t : State) : Type 0 where
  pub size : s.size ≡ t.size
  pub long : length s.bytes ≡ length t.bytes
  pub same : take (32 * s.size) s.bytes ≡ take (32 * s.size) t.bytes

module _ (digest : List ℕ → List ℕ) (digest_32 : (x : List ℕ) → length (digest x) ≡ 32) where
  -- ---- one append

  module _ (s t : State) (r : List ℕ) (a : Agree s t) where
    like : Alike s.size s.bytes t.bytes (next digest s r) (next digest t r)
    like =
        subst (λ (x : ℕ). Alike s.size s.bytes t.bytes (next digest s r) (append_outcome digest x r t.bytes)) a.size
        (append_local digest digest_32 s.size r s.bytes t.bytes a.long a.same)

    -- the nodes up to the new size
    same_nodes : take (32 * (next digest s r).size) (next digest s r).bytes ≡ take (32 * (next digest s r).size) (next digest t r).bytes
    same_nodes =
        by_cases (ℕ_discrete (next digest s r).number 0)
        (λ z.
        let room = (next_more digest s r z).room in
        let at = 32 * s.size in
        let xs = like.new in
        ap₂ take (sym like.long) like.one
        ∙ splice_through at xs s.bytes (omega (arith, like.long))
        ∙ ap (λ (x : List ℕ). x ++ xs) a.same
        ∙ sym (splice_through at xs t.bytes (omega (arith, like.long, a.long)))
        ∙ sym (ap₂ take (sym like.long) like.other))
        (λ z.
        let p = told_refused digest s.size r s.bytes z in
        let q = told_refused digest t.size r t.bytes (λ h. z (like.number ∙ h)) in
        ap (λ (x : AppendOutcome). take (32 * x.size) x.bytes) p ∙ a.same
        ∙ sym (ap₂ (λ (x y : AppendOutcome). take (32 * x.size) y.bytes) p q))

    agree_step : Agree (step digest s r) (step digest t r)
    unfolding step
    agree_step =
        record {
          size = like.grown;
          long = next_long digest s r digest_32 ∙ a.long ∙ sym (next_long digest t r digest_32);
          same = same_nodes;
        }

    -- what it writes
    same_new : (next digest s r).number ≡ 0 → new digest s r ≡ new digest t r
    same_new z =
        let y : (next digest t r).number ≡ 0 = sym like.number ∙ z in
        let m = next_more digest s r z in
        let at = 32 * s.size in
        let k = 32 * (next digest s r).hashes in
        let l : length (new digest t r) ≡ k = new_long digest t r digest_32 ∙ ap (λ (x : ℕ). 32 * x) (sym like.hashes) in
        let b : (next digest t r).bytes ≡ splice at (new digest t r) t.bytes =
        append_writes digest t.size r t.bytes y ∙ ap (λ (x : ℕ). splice (32 * x) (new digest t r) t.bytes) (sym a.size) in
        let fits : at + k ≡ 32 * (next digest s r).size = omega (arith, m.hashes) in
        sym (part_splice at k (new digest s r) s.bytes (new_long digest s r digest_32) (omega (arith, m.room)))
        ∙ ap (part at k) (sym (append_writes digest s.size r s.bytes z) ∙ like.one)
        ∙ part_splice at k like.new s.bytes (omega (arith, like.long)) (omega (arith, m.room))
        ∙ sym (part_splice at k like.new t.bytes (omega (arith, like.long)) (omega (arith, m.room, a.long)))
        ∙ ap (part at k) (sym like.other ∙ b)
        ∙ part_splice at k (new digest t r) t.bytes l (omega (arith, m.room, a.long))

  -- ---- a run

  numbers_alike : (s t : State) (r : List ℕ) → Agree s t → (next digest s r).number ≡ (next digest t r).number
  numbers_alike s t r a = (like s t r a).number

  hashes_alike : (s t : State) (r : List ℕ) → Agree s t → (next digest s r).hashes ≡ (next digest t r).hashes
  hashes_alike s t r a = (like s t r a).hashes

  news_alike : (s t : State) (rs : List (List ℕ)) → Agree s t → met digest s rs ≡ 0 → news digest digest_32 s rs ≡ news digest digest_32 t rs
  unfolding run_hashed joined
  news_alike s t [] a z = refl
  news_alike s t (r ∷ rs) a z =
      let m = met_none digest s r rs z in
      news_next digest digest_32 s r rs
      ∙ ap₂ (λ (x y : List ℕ). x ++ y) (same_new s t r a m.0) (news_alike (step digest s r) (step digest t r) rs (agree_step s t r a) m.1)
      ∙ sym (news_next digest digest_32 t r rs)

  -- ---- a batch

  module _ (size : ℕ) (whole lengths bs cs : List ℕ) (l : length bs ≡ length cs) (same : take (32 * size) bs ≡ take (32 * size) cs) where
    abbrev outcome : List ℕ → AppendOutcome
    outcome xs = batch_outcome digest size whole lengths xs

    agree : Agree (begun size bs) (begun size cs)
    agree = record { size = refl; long = l; same = same }

    number_by : (xs : List ℕ) → (outcome xs).number ≡ first_number (batch_order digest size whole lengths xs)
    unfolding batch_outcome batch_done
    number_by xs =
        number_is (λ (x : AppendOutcome). x.number) (append_refused size xs) (batch_order digest size whole lengths xs)
        (batch_done digest size whole lengths xs) (λ m. refl) refl {r = outcome xs} refl

    one_number : (outcome bs).number ≡ (outcome cs).number
    unfolding batch_order
    one_number =
        number_by bs
        ∙ ap (λ (m : ℕ). first_number (1 if (count_answer size).number is 1 ∷ 16 if total lengths is_not length whole ∷ m if m above 0 ∷ []))
        (met_alike digest Agree numbers_alike hashes_alike agree_step (begun size bs) (begun size cs) (cut lengths whole) agree)
        ∙ sym (number_by cs)

    done_alike : (outcome bs).number ≡ 0 → Alike size bs cs (outcome bs) (outcome cs)
    unfolding batch_done
    done_alike z =
        let rs = cut lengths whole in
        let y : (outcome cs).number ≡ 0 = sym one_number ∙ z in
        let d = batch_taken digest size whole lengths bs z in
        let e = batch_taken digest size whole lengths cs y in
        let r = run_alike digest Agree numbers_alike hashes_alike agree_step (begun size bs) (begun size cs) rs agree in
        let n = news_alike (begun size bs) (begun size cs) rs agree d.none in
        record {
          number = one_number;
          grown = ap (λ (x : AppendOutcome). x.size) d.is ∙ r.size ∙ sym (ap (λ (x : AppendOutcome). x.size) e.is);
          hashes =
              ap (λ (x : AppendOutcome). x.hashes) d.is
              ∙ total_alike digest Agree numbers_alike hashes_alike agree_step (begun size bs) (begun size cs) rs agree
              ∙ sym (ap (λ (x : AppendOutcome). x.hashes) e.is);
          new = news digest digest_32 (begun size bs) rs;
          long =
              omega (
                arith,
                hashed_length digest digest_32 (run_hashed digest (begun size bs) rs) (total_hashed digest (begun size bs) rs),
                run_counts digest (begun size bs) rs,
                ap (λ (x : AppendOutcome). x.size) d.is,
              );
          one = batch_writes digest size whole lengths bs digest_32 z;
          other = batch_writes digest size whole lengths cs digest_32 y ∙ ap (λ (x : List ℕ). splice (32 * size) x cs) (sym n);
        }

    -- two buffers of one length that agree below 32 × size
    pub batch_local : Alike size bs cs (outcome bs) (outcome cs)
    batch_local =
        by_cases (ℕ_discrete (outcome bs).number 0) done_alike
        (λ z.
        alike_refused size bs cs (outcome bs) (outcome cs) one_number (batch_refused digest size whole lengths bs z)
        (batch_refused digest size whole lengths cs (λ h. z (one_number ∙ h))))
