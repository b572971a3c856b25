-- What is left where nothing is refused: the new nodes behind the old ones, and the peaks folded.
use mathlib.Core.Path.{◌≡◌, sym, ap, ap₂, ◌∙◌}
use mathlib.Core.List.{List}
use Prim.Native.Nat.{ℕ, suc, ◌+◌, ◌*◌, ◌<◌}
use native.Mathlib.Omega.{arith}
use Rattle.std.specs.Prelude.{Ok}
use Rattle.digest.specs.declared.Digest.{Digest}
use Rattle.digest.specs.Digest.{digest_in}
use Rattle.wire.specs.Slices.{splice, joined}
use Rattle.shape.specs.Sizes.{size_of, trailing_ones, hash_count, height_of, leaves}
use Rattle.shape.specs.Nodes.{climb, new_nodes}
use Rattle.shape.specs.Positions.{peaks_in, peaks, fold}
use Rattle.shape.proofs.Heights.{height_holds}
use Rattle.shape.proofs.Counting.{Counts, grown_size}
use Rattle.nodes.specs.Nodes.{node_in, fold_from}
use Rattle.nodes.proofs.From.{from_any}
use Rattle.new_nodes.specs.Outcome.{put_bytes}
use Rattle.evidence_log.specs.Outcome.{appended, append_done, put_nodes, rooted, root_done}
use Rattle.evidence_log.specs.declared.Appended.{Appended}

module _ (mode : List ℕ) {size n m : ℕ} (rec bs : List ℕ) (k : Counts size n) (e : m ≡ trailing_ones n) where
  -- a leaf at the position of the next, and as many parents as n has trailing ones, are the new nodes
  put_new : put_bytes (digest_in mode) size m rec bs
      ≡ put_nodes size bs (new_nodes (digest_in mode) (node_in bs) (leaves size) (digest_in mode rec))
  unfolding put_bytes new_nodes
  put_new =
      ap₂ (λ (j p : ℕ). splice (32 * size) (joined (climb (digest_in mode) (node_in bs) j 0 p (digest_in mode rec))) bs)
      (e ∙ ap trailing_ones (sym k.value))
      (sym k.is ∙ ap size_of (sym k.value))

  pub append_done_lem : {a : Appended} {last : List ℕ} → a.size ≡ size + (1 + m) → a.hashes ≡ 1 + m → last ≡ put_bytes (digest_in mode) size m rec bs
      → appended size (Ok a) last ≡ append_done (digest_in mode) (node_in bs) (put_nodes size bs) size rec
  unfolding append_done
  append_done_lem {a} {last} g c d =
      let s : a.size ≡ size_of (suc (leaves size)) = g ∙ sym (grown_size k e) in
      let t : a.hashes ≡ hash_count (leaves size) = c ∙ ap (λ (x : ℕ). 1 + x) (e ∙ ap trailing_ones (sym k.value)) in
      let b : last ≡ put_nodes size bs (new_nodes (digest_in mode) (node_in bs) (leaves size) (digest_in mode rec)) = d ∙ put_new in
      λ i. record { number = 0; size = s i; hashes = t i; bytes = b i }

-- the peaks folded
pub root_done_lem : (mode : List ℕ) {size n : ℕ} (bs : List ℕ) → Counts size n → 0 < n → {d : Digest} → d.bytes ≡ fold_from (digest_in mode) bs n 0
    → rooted (Ok d) ≡ root_done (digest_in mode) (node_in bs) size
unfolding root_done peaks
root_done_lem mode {n = n} bs k some b =
    ap (λ (x : List ℕ). record { number = 0; root = x })
    (b
    ∙ from_any (digest_in mode) bs n 0 (height_of n) (height_holds n) some k.most (omega arith)
    ∙ ap (λ (x : ℕ). fold (digest_in mode) (node_in bs) (peaks_in (suc (height_of x)) x 0)) (sym k.value))
