-- The loop that appends record after record: those so far, and those that are left.
use mathlib.Core.Path.{◌≡◌, sym, ap, ap₂, ◌∙◌}
use mathlib.Core.List.{List, ◌∷◌}
use Prim.Native.Nat.{ℕ, ◌+◌, ◌≤◌, ◌<◌}
use native.Mathlib.Omega.{arith}
use lib.ListN.{length, get_or, take, drop, drop_of_length-le, length-drop}
use Rattle.digest.specs.Digest.{digest_in, digest_length}
use Rattle.records.specs.Records.{total, cut}
use Rattle.records.proofs.Sums.{next_length, total_cons}
use Rattle.records.proofs.Cuts.{cut_next}
use Rattle.evidence_log.specs.Outcome.{AppendOutcome, append_outcome}
use Rattle.evidence_log.specs.Appends.{State, step, run}
use Rattle.batch.specs.Batch.{begun}
use Rattle.batch.specs.Steps.{Left}
use Rattle.batch.proofs.Next.{next_long}

module _ (mode : List ℕ) (size : ℕ) (whole ks bs : List ℕ) where
  -- what the run of all of them leaves
  abbrev pub ended : State
  ended = run (digest_in mode) (begun size bs) (cut ks whole)

  pub record Appends (last rest : List ℕ) (grown i : ℕ) : Type 0 where
    pub within : i ≤ length ks
    pub left : total (drop i ks) ≡ length rest
    pub long : length last ≡ length bs
    pub taken : List (List ℕ)
    pub same : run (digest_in mode) (record { size = grown; bytes = last; taken = taken }) (cut (drop i ks) rest) ≡ ended

  module _ {last rest : List ℕ} {grown i : ℕ} (w : Appends last rest grown i) where
    -- the next record lies within what is left
    pub appends_room : i < length ks → get_or ks i 0 + total (drop (i + 1) ks) ≡ length rest
    appends_room h = omega (arith, w.left, ap total (next_length ks i h), total_cons (get_or ks i 0) (drop (i + 1) ks))

    -- one append more, of what is taken from the front, with its outcome
    pub appends_next : i < length ks → (o : AppendOutcome) {rec after more : List ℕ} {next : ℕ}
        → rec ≡ take (get_or ks i 0) rest → after ≡ drop (get_or ks i 0) rest → next ≡ o.size → more ≡ o.bytes
        → o ≡ append_outcome (digest_in mode) grown rec last → Appends more after next (i + 1)
    unfolding run step
    appends_next h o {rec} {after} {more} {next} f b z m e =
        let digest = digest_in mode in
        let k = get_or ks i 0 in
        let s : State = record { size = grown; bytes = last; taken = w.taken } in
        let r = take k rest in
        let left : ℕ → List ℕ → State = λ x y. record { size = x; bytes = y; taken = (step digest s r).taken } in
        let p : o ≡ append_outcome digest grown r last = e ∙ ap (λ (x : List ℕ). append_outcome digest grown x last) f in
        let c : cut (drop i ks) rest ≡ r ∷ cut (drop (i + 1) ks) (drop k rest) =
        ap (λ (x : List ℕ). cut x rest) (next_length ks i h) ∙ cut_next k (drop (i + 1) ks) rest in
        record {
          within = omega arith;
          left = omega (arith, appends_room h, length-drop k rest, ap length b);
          long = ap length m ∙ ap (λ (x : AppendOutcome). length x.bytes) p ∙ next_long digest s r (digest_length mode) ∙ w.long;
          taken = (step digest s r).taken;
          same =
              ap₂ (λ (x : ℕ) (y : List ℕ). run digest (left x y) (cut (drop (i + 1) ks) after)) z m
              ∙ ap₂ (λ (x : AppendOutcome) (y : List ℕ). run digest (left x.size x.bytes) (cut (drop (i + 1) ks) y)) p b
              ∙ sym (ap (run digest s) c) ∙ w.same;
        }

    -- the end
    pub appends_end : length ks ≤ i → Left ended grown last
    unfolding run cut
    appends_end h =
        let s : State = record { size = grown; bytes = last; taken = w.taken } in
        let e : s ≡ ended = sym (ap (λ (x : List ℕ). run (digest_in mode) s (cut x rest)) (drop_of_length-le ks {i = i} h)) ∙ w.same in
        record { size = ap (λ (x : State). x.size) e; bytes = ap (λ (x : State). x.bytes) e }
