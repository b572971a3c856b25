-- Bytes beyond the size mean nothing, over any digest function: what an append does depends on the buffer's length and on its bytes below 32 × size
-- only, where digests have 32 bytes, and the root on these bytes alone.
use mathlib.Core.Path.{◌≡◌, sym, ap, ◌∙◌}
use mathlib.Core.Logic.{by_cases}
use mathlib.Core.List.{List, [], ◌∷◌}
use Prim.Native.Nat.{ℕ, suc, ◌+◌, ◌*◌, ◌<◌}
use native.Mathlib.Decide.{ℕ_discrete}
use native.Mathlib.Omega.{arith}
use lib.ListN.{length, take}
use Rattle.order.specs.Order.{Test, ◌if◌, ◌is◌, ◌under◌, verdict, first_number}
use Rattle.order.proofs.Laws.{verdict_done, verdict_test}
use Rattle.wire.specs.Slices.{splice, joined}
use Rattle.wire.proofs.Splices.{splice_none}
use Rattle.wire.proofs.Joined.{joined_length}
use Rattle.shape.specs.Sizes.{size_of, count_answer, hash_count, leaves}
use Rattle.shape.specs.Nodes.{new_nodes}
use Rattle.shape.proofs.Sizes.{size_suc}
use Rattle.shape.proofs.Appends.{new_local, new_length}
use Rattle.shape.proofs.Inside.{peaks_local}
use Rattle.shape.proofs.Counting.{counts_known}
use Rattle.nodes.specs.Nodes.{node_in}
use Rattle.nodes.proofs.Local.{node_local, short_local}
use Rattle.evidence_log.specs.Outcome.{AppendOutcome, append_refused, append_order, append_done, append_outcome}
use Rattle.evidence_log.specs.Outcome.{root_refused, root_order, root_done, root_over, root_outcome}
use Rattle.new_nodes.proofs.Climbs.{new_sized}
use Rattle.evidence_log.proofs.Told.{told_number, told_refused, told_done}

-- ---- append

-- two outcomes that answer alike, over two buffers into which the same bytes are written from byte 32 × size on
pub record Alike (size : ℕ) (bs cs : List ℕ) (o p : AppendOutcome) : Type 0 where
  pub number : o.number ≡ p.number
  pub grown : o.size ≡ p.size
  pub hashes : o.hashes ≡ p.hashes
  pub new : List ℕ
  pub long : 32 * size + length new ≡ 32 * o.size
  pub one : o.bytes ≡ splice (32 * size) new bs
  pub other : p.bytes ≡ splice (32 * size) new cs

-- two refusals: nothing is written
pub alike_refused : (size : ℕ) (bs cs : List ℕ) (o p : AppendOutcome) → o.number ≡ p.number
    → o ≡ append_refused size bs o.number → p ≡ append_refused size cs p.number → Alike size bs cs o p
alike_refused size bs cs o p n e f =
    record {
      number = n;
      grown = ap (λ (x : AppendOutcome). x.size) e ∙ sym (ap (λ (x : AppendOutcome). x.size) f);
      hashes = ap (λ (x : AppendOutcome). x.hashes) e ∙ sym (ap (λ (x : AppendOutcome). x.hashes) f);
      new = [];
      long = omega (arith, ap (λ (x : AppendOutcome). x.size) e);
      one = ap (λ (x : AppendOutcome). x.bytes) e ∙ sym (splice_none (32 * size) bs);
      other = ap (λ (x : AppendOutcome). x.bytes) f ∙ sym (splice_none (32 * size) cs);
    }

module _ (digest : List ℕ → List ℕ) (digest_32 : (x : List ℕ) → length (digest x) ≡ 32) (size : ℕ) (rec bs cs : List ℕ) (l : length bs ≡ length cs)
    (same : take (32 * size) bs ≡ take (32 * size) cs) where
  abbrev outcome : List ℕ → AppendOutcome
  outcome xs = append_outcome digest size rec xs

  one_number : (outcome bs).number ≡ (outcome cs).number
  one_number =
      told_number digest size rec bs
      ∙ ap (λ (k : ℕ). first_number (append_order (k under 32 * size_of (suc (leaves size))) size rec)) l
      ∙ sym (told_number digest size rec cs)

  -- done: the same new nodes
  done_alike : (outcome bs).number ≡ 0 → Alike size bs cs (outcome bs) (outcome cs)
  unfolding append_order append_done
  done_alike z =
      let p = (told_done digest size rec bs z).1 in
      let q = (told_done digest size rec cs (sym one_number ∙ z)).1 in
      let k = counts_known size (told_done digest size rec bs z).0.0 in
      let n = leaves size in
      let ns = new_nodes digest (node_in bs) n (digest rec) in
      let b : length (joined ns) ≡ 32 * hash_count n =
      joined_length ns (new_sized digest digest_32 (node_in bs) n (digest rec) (digest_32 rec))
      ∙ ap (λ (x : ℕ). 32 * x) (new_length digest (node_in bs) n (digest rec)) in
      let w : ns ≡ new_nodes digest (node_in cs) n (digest rec) =
      new_local digest (node_in bs) (node_in cs) n (digest rec) (λ i h. node_local size bs cs same i (omega (arith, k.is))) in
      record {
        number = one_number;
        grown = ap (λ (x : AppendOutcome). x.size) p ∙ sym (ap (λ (x : AppendOutcome). x.size) q);
        hashes = ap (λ (x : AppendOutcome). x.hashes) p ∙ sym (ap (λ (x : AppendOutcome). x.hashes) q);
        new = joined ns;
        long = omega (arith, size_suc n, k.is, ap (λ (x : AppendOutcome). x.size) p);
        one = ap (λ (x : AppendOutcome). x.bytes) p;
        other = ap (λ (x : AppendOutcome). x.bytes) q ∙ ap (λ (x : List (List ℕ)). splice (32 * size) (joined x) cs) (sym w);
      }

  -- two buffers of one length that agree below 32 × size
  pub append_local : Alike size bs cs (outcome bs) (outcome cs)
  append_local =
      by_cases (ℕ_discrete (outcome bs).number 0) done_alike
      (λ z.
      alike_refused size bs cs (outcome bs) (outcome cs) one_number (told_refused digest size rec bs z)
      (told_refused digest size rec cs (λ h. z (one_number ∙ h))))

-- ---- root

-- any nodes that agree below the size
pub root_over_local : (digest : List ℕ → List ℕ) (f g : ℕ → List ℕ) (short : Test) (size : ℕ) → ((p : ℕ) → p < size → f p ≡ g p)
    → root_over digest f short size ≡ root_over digest g short size
unfolding root_over root_order root_done
root_over_local digest f g short size e =
    verdict_done root_refused (root_order short size)
    (λ p.
    let k = counts_known size p.0 in
    let d = peaks_local digest f g (leaves size) (λ q h. e q (omega (arith, k.is))) in
    λ i. record { number = 0; root = d i })

module _ (size : ℕ) (bs cs : List ℕ) (same : take (32 * size) bs ≡ take (32 * size) cs) where
  -- number 4 applies to both or to neither
  pub root_order_local : {X : Type 0} (refused : ℕ → X) (done : X)
      → verdict refused (root_order (length bs under 32 * size) size) done ≡ verdict refused (root_order (length cs under 32 * size) size) done
  unfolding root_order
  root_order_local refused done =
      verdict_test refused (1 if (count_answer size).number is 1 ∷ 10 if leaves size is 0 ∷ []) [] 4
      (length bs under 32 * size) (length cs under 32 * size) done (short_local size bs cs same)

  -- two buffers that agree in their first 32 × size bytes: bytes beyond the size mean nothing
  pub root_local : (digest : List ℕ → List ℕ) → root_outcome digest size bs ≡ root_outcome digest size cs
  unfolding root_outcome root_over
  root_local digest =
      root_over_local digest (node_in bs) (node_in cs) (length bs under 32 * size) size (node_local size bs cs same)
      ∙ root_order_local root_refused (root_done digest (node_in cs) size)
