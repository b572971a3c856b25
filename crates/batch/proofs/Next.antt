-- One append of a run, over any digest function: its count, and with digests of 32 bytes what it writes; the buffer stays as long as it was.
use mathlib.Core.Path.{◌≡◌, sym, ap, subst, ◌∙◌}
use mathlib.Core.Logic.{by_cases}
use mathlib.Core.List.{List, map}
use Prim.Native.Nat.{ℕ, suc, ◌+◌, ◌*◌, ◌≤◌}
use native.Mathlib.Decide.{ℕ_discrete}
use native.Mathlib.Omega.{arith}
use lib.ListN.{length, length-map}
use Rattle.wire.specs.Slices.{joined}
use Rattle.wire.proofs.Each.{each_map}
use Rattle.wire.proofs.Joined.{joined_length}
use Rattle.wire.proofs.Splices.{splice_length}
use Rattle.shape.specs.Sizes.{size_of, leaves}
use Rattle.shape.proofs.Sizes.{size_suc}
use Rattle.shape.proofs.Counting.{Counts, counts_known, counts_size}
use Rattle.evidence_log.specs.Outcome.{AppendOutcome, append_order, append_done}
use Rattle.evidence_log.specs.Appends.{State}
use Rattle.evidence_log.specs.Hashed.{append_hashed}
use Rattle.evidence_log.proofs.Told.{told_refused, told_done}
use Rattle.evidence_log.proofs.Hashed.{append_counts, append_writes}
use Rattle.batch.specs.Batch.{next}

-- the digests of k strings
pub hashed_length : (digest : List ℕ → List ℕ) → ((x : List ℕ) → length (digest x) ≡ 32) → (hs : List (List ℕ)) {k : ℕ} → k ≡ length hs
    → length (joined (map digest hs)) ≡ 32 * k
hashed_length digest digest_32 hs e =
    joined_length (map digest hs) (each_map 32 digest digest_32 hs) ∙ ap (λ (x : ℕ). 32 * x) (length-map hs digest ∙ sym e)

module _ (digest : List ℕ → List ℕ) (s : State) (r : List ℕ) where
  -- done: the size had a leaf count, and now there is one leaf more, with room
  pub record More : Type 0 where
    pub known : Counts s.size (leaves s.size)
    pub counts : Counts (next digest s r).size (suc (leaves s.size))
    pub hashes : (next digest s r).size ≡ s.size + (next digest s r).hashes
    pub room : 32 * (next digest s r).size ≤ length s.bytes

  pub next_more : (next digest s r).number ≡ 0 → More
  unfolding append_order append_done
  next_more z =
      let a = told_done digest s.size r s.bytes z in
      let k = counts_known s.size a.0.0 in
      let n = leaves s.size in
      let e : size_of (suc n) ≡ (next digest s r).size = sym (ap (λ (o : AppendOutcome). o.size) a.1) in
      record {
        known = k;
        counts = subst (λ (x : ℕ). Counts x (suc n)) e (counts_size (suc n) (omega (arith, k.most, a.0.1.0)));
        hashes = omega (arith, ap (λ (o : AppendOutcome). o.hashes) a.1, size_suc n, k.is);
        room = omega (arith, a.0.1.1.1.0);
      }

  -- in either case the count is the new size minus the old
  pub next_counts : (next digest s r).size ≡ s.size + (next digest s r).hashes
  next_counts =
      by_cases (ℕ_discrete (next digest s r).number 0) (λ z. (next_more z).hashes)
      (λ z.
      let e = told_refused digest s.size r s.bytes z in
      omega (arith, ap (λ (o : AppendOutcome). o.size) e, ap (λ (o : AppendOutcome). o.hashes) e))

  -- what it writes
  abbrev pub new : List ℕ
  new = joined (map digest (append_hashed digest s.size r s.bytes))

  module _ (digest_32 : (x : List ℕ) → length (digest x) ≡ 32) where
    pub new_long : length new ≡ 32 * (next digest s r).hashes
    new_long = hashed_length digest digest_32 (append_hashed digest s.size r s.bytes) (append_counts digest s.size r s.bytes)

    -- the buffer stays as long as it was
    pub next_long : length (next digest s r).bytes ≡ length s.bytes
    next_long =
        by_cases (ℕ_discrete (next digest s r).number 0)
        (λ z.
        let m = next_more z in
        ap length (append_writes digest s.size r s.bytes z)
        ∙ splice_length (32 * s.size) new s.bytes (omega (arith, new_long, m.room, m.hashes)))
        (λ z. ap (λ (o : AppendOutcome). length o.bytes) (told_refused digest s.size r s.bytes z))
