-- What is written is read back, and what is read is written again: leaf and inner node, by the outcomes that the calls' statements cite.
use mathlib.Core.Path.{◌≡◌, refl, sym, ap, ◌∙◌}
use mathlib.Core.List.{List}
use Prim.Native.Nat.{ℕ, suc, ◌≤◌}
use native.Mathlib.Omega.{arith}
use lib.ListN.{length, take, drop}
use lib.Seq.{take_at}
use borrow.Author.Rules.{rules}
use Rattle.wire.specs.Numbers.{Bytes}
use Rattle.wire.proofs.Parts.{part_length}
use Rattle.wire.proofs.Splices.{splice_front}
use Rattle.order.proofs.Laws.{passes, accepted}
use Rattle.stored.specs.Nodes.{inner_bytes, leaf_bytes, stated_in, record_in}
use Rattle.wire.specs.Writers.{WriteOutcome, write_refused, write_done}
use Rattle.stored_writer.specs.Outcome.{leaf_order, inner_order, leaf_outcome, inner_outcome}
use Rattle.stored.specs.Read.{inner, leaf, inner_read, leaf_read, read_outcome}
use Rattle.stored.proofs.Fields.{inner_digest, leaf_length, leaf_digest, leaf_stated, leaf_record, inner_whole}
use Rattle.stored.proofs.Edited.{leaf_own}
use Rattle.stored.proofs.Ends.{inner_node, leaf_node, of_inner, of_leaf}

-- the first bytes of the output buffer, as many as the writer reports
abbrev pub reported : WriteOutcome → List ℕ
reported w = take w.length w.bytes

reported_done : (node out : List ℕ) → reported (write_done node out) ≡ node
reported_done node out = rw splice_front (take_at node (drop (length node) out) (length node) refl)

-- ---- what is written is read back

-- an inner node, with the digest that was given, whatever function makes the leaves' digests
pub inner_back : (digest : List ℕ → List ℕ) (given out : List ℕ) → length given ≡ 32 → (inner_outcome given out).number ≡ 0
    → read_outcome digest (reported (inner_outcome given out)) ≡ inner_read given
unfolding inner_outcome inner_bytes
inner_back digest given out h z =
    let a = accepted (λ w. w.number) (write_refused out) (inner_order out) (write_done (inner_bytes given) out) (λ n. refl) refl refl tt z in
    let n = inner_node digest (inner_bytes given) refl (omega (arith, ap suc h)) in
    rw (a.1, reported_done (inner_bytes given) out, n.outcome, inner_digest given h)

module _ (digest : List ℕ → List ℕ) (sized : (bs : List ℕ) → length (digest bs) ≡ 32) where
  leaf_read_lem : (rec : List ℕ) → length rec ≤ 16384
      → (read_outcome digest (leaf_bytes digest rec) ≡ leaf_read (length rec) (digest rec)) × (record_in (leaf_bytes digest rec) ≡ rec)
  unfolding leaf_bytes record_in
  leaf_read_lem rec l =
      let bs : List ℕ = leaf_bytes digest rec in
      let s : stated_in bs ≡ length rec = leaf_stated digest rec (sized rec) (omega arith) in
      let d = leaf_digest digest rec (sized rec) in
      let r : record_in bs ≡ rec = rw s (leaf_record digest rec (sized rec)) in
      let n = leaf_node digest bs refl (omega arith) (omega (arith, leaf_length digest rec (sized rec))) (ap digest r ∙ sym d) in
      (n.outcome ∙ rw (s, d), r)

  -- a leaf, with the digest of its record, and its record
  pub leaf_back : (rec out : List ℕ) → (leaf_outcome digest rec out).number ≡ 0
      → (read_outcome digest (reported (leaf_outcome digest rec out)) ≡ leaf_read (length rec) (digest rec))
      × (record_in (reported (leaf_outcome digest rec out)) ≡ rec)
  unfolding leaf_outcome
  leaf_back rec out z =
      let node : List ℕ = leaf_bytes digest rec in
      let a = accepted (λ w. w.number) (write_refused out) (leaf_order rec out) (write_done node out) (λ n. refl) refl refl tt z in
      let e : reported (leaf_outcome digest rec out) ≡ node = rw a.1 (reported_done node out) in
      rw e (leaf_read_lem rec a.0.0)

-- ---- what is read is written again

-- every inner node
pub inner_again : (digest : List ℕ → List ℕ) (bs out : List ℕ) → (read_outcome digest bs).kind ≡ inner → length bs ≤ length out
    → inner_outcome (read_outcome digest bs).digest out ≡ write_done bs out
unfolding inner_outcome
inner_again digest bs out k l =
    let n = of_inner digest bs k in
    let e : inner_bytes (read_outcome digest bs).digest ≡ bs = rw n.outcome (inner_whole bs n.flag n.exact) in
    sym (passes (write_refused out) (inner_order out) _ (ap (λ (x : List ℕ). write_done x out) (sym e)) (search rules))

-- every leaf
pub leaf_again : (digest : List ℕ → List ℕ) (bs out : List ℕ) → Bytes bs → (read_outcome digest bs).kind ≡ leaf → length bs ≤ length out
    → leaf_outcome digest (record_in bs) out ≡ write_done bs out
unfolding leaf_outcome record_in
leaf_again digest bs out b k l =
    let n = of_leaf digest bs k in
    let e = leaf_own digest bs b k in
    let m : length (record_in bs) ≡ stated_in bs = part_length 37 (stated_in bs) bs in
    sym (passes (write_refused out) (leaf_order (record_in bs) out) _ (ap (λ (x : List ℕ). write_done x out) (sym e)) (search rules))
