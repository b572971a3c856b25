-- Fields that are written one after the other fill the first bytes of the output buffer with the letter.
use mathlib.Core.Path.{◌≡◌, sym, ap, ap₂, ◌∙◌}
use mathlib.Core.List.{List, ◌++◌}
use Prim.Native.Nat.{ℕ, ◌+◌, ◌*◌, ◌≤◌}
use native.Mathlib.Nat.{le_of_eq}
use native.Mathlib.Omega.{arith}
use lib.ListN.{length, length-append}
use Rattle.std.specs.Prelude.{Ok}
use Rattle.digest.specs.Digest.{digest_in, digest_length}
use Rattle.wire.specs.Numbers.{be}
use Rattle.wire.specs.Slices.{splice, written, joined}
use Rattle.wire.specs.Writers.{wrote, write_done}
use Rattle.wire.proofs.Numbers.{be_length}
use Rattle.wire.proofs.Splices.{splice_splice, written_fits, written_next}
use Rattle.wire.proofs.Writers.{write_done_lem}
use Rattle.records.specs.Records.{cut}
use Rattle.records.proofs.Cuts.{cut_count, cut_lengths}
use Rattle.shape.proofs.Counting.{Counts}
use Rattle.nodes.specs.Nodes.{node_in}
use Rattle.nodes.proofs.Joined.{node_length}
use Rattle.passage.specs.Bytes.{entries, passage_bytes}
use Rattle.passage.specs.Digests.{digest_count, digests_of, exact_length}
use Rattle.passage_digests.proofs.Exact.{digests_bytes}
use Rattle.passage_writer.specs.Outcome.{our_passage}
use Rattle.passage_foresight.specs.Steps.{OneEach}
use Rattle.passage_writer.specs.Steps.{end_of, Entered}
use Rattle.passage_writer.proofs.Lengths.{entries_cut, ours_exact}

module _ (size : ℕ) (is whole ks : List ℕ) (ds : List (List ℕ)) (each : OneEach is whole ks) where
  passage_filled : (out : List ℕ) {l₁ l₂ l₃ l₄ : List ℕ} {next : ℕ} → end_of is whole + length (joined ds) ≤ length out
      → l₁ ≡ written 0 (be 8 size) out → l₂ ≡ written 8 (be 2 (length is)) l₁ → Entered is whole ks l₂ next l₃
      → l₄ ≡ written next (joined ds) l₃ → l₄ ≡ splice 0 (passage_bytes size is (cut ks whole) ds) out
  unfolding passage_bytes
  passage_filled out {l₁} {l₂} {l₃} {l₄} {next} room e₁ e₂ e₃ e₄ =
      let a : List ℕ = be 8 size in
      let b : List ℕ = be 2 (length is) in
      let c : List ℕ = entries is (cut ks whole) in
      let na : length a ≡ 8 = be_length 8 size in
      let nb : length b ≡ 2 = be_length 2 (length is) in
      let nc : length c ≡ 12 * length is + length whole =
      entries_cut is ks whole each.as_many (le_of_eq each.sum) ∙ ap (λ (k : ℕ). 12 * length is + k) each.sum in
      let nab : length (a ++ b) ≡ 10 = length-append a b ∙ omega arith in
      let nabc : length (a ++ b ++ c) ≡ end_of is whole = length-append (a ++ b) c ∙ omega arith in
      let f₁ : l₁ ≡ splice 0 a out = e₁ ∙ written_fits 0 a out (omega arith) in
      let f₂ : l₂ ≡ splice 0 (a ++ b) out = e₂ ∙ written_next 0 8 a b out l₁ f₁ (omega arith) (omega arith) in
      let f₃ : l₃ ≡ splice 0 (a ++ b ++ c) out =
      e₃.bytes ∙ ap₂ (λ (x : ℕ) (y : List ℕ). splice x c y) (let z : 10 ≡ 0 + length (a ++ b) = omega arith in z) f₂
      ∙ splice_splice 0 (a ++ b) c out (omega arith) in
      e₄ ∙ written_next 0 next (a ++ b ++ c) (joined ds) out l₃ f₃ (omega (arith, e₃.behind)) (omega (arith, e₃.behind))

-- our letter
module _ (mode : List ℕ) {size n : ℕ} (is whole ks bs : List ℕ) (k : Counts size n) (each : OneEach is whole ks) where
  pub our_length : length (our_passage (digest_in mode) size is (cut ks whole) (node_in bs)) ≡ end_of is whole + 32 * digest_count n is
  unfolding exact_length
  our_length =
      ours_exact (digest_in mode) (node_in bs) (digest_length mode) (node_length bs) size is (cut ks whole) (cut_count ks whole ∙ each.as_many)
      ∙ ap₂ (λ (m : ℕ) (x : List ℕ). exact_length m is x) k.value (cut_lengths ks whole (le_of_eq each.sum))
      ∙ ap (λ (m : ℕ). 10 + (12 * length is + m) + 32 * digest_count n is) each.sum

  pub passage_done : (out : List ℕ) {l₁ l₂ l₃ l₄ : List ℕ} {next : ℕ} (m : ℕ) → m ≡ end_of is whole + 32 * digest_count n is → m ≤ length out
      → l₁ ≡ written 0 (be 8 size) out → l₂ ≡ written 8 (be 2 (length is)) l₁ → Entered is whole ks l₂ next l₃
      → l₄ ≡ written next (joined (digests_of (digest_in mode) (node_in bs) n is)) l₃
      → wrote (Ok m) l₄ ≡ write_done (our_passage (digest_in mode) size is (cut ks whole) (node_in bs)) out
  unfolding our_passage
  passage_done out {l₄ = l₄} m e fits e₁ e₂ e₃ e₄ =
      let ds : List (List ℕ) = digests_of (digest_in mode) (node_in bs) n is in
      let b : length (joined ds) ≡ 32 * digest_count n is = digests_bytes (digest_in mode) (node_in bs) n is (digest_length mode) (node_length bs) in
      write_done_lem (our_passage (digest_in mode) size is (cut ks whole) (node_in bs)) out l₄ m (e ∙ sym our_length)
      (passage_filled size is whole ks ds each out (omega arith) e₁ e₂ e₃ e₄
      ∙ ap (λ (x : ℕ). splice 0 (passage_bytes size is (cut ks whole) (digests_of (digest_in mode) (node_in bs) x is)) out) (sym k.value))
