-- What the finder finds depends on the nodes below the size only: bytes of the node buffer beyond it mean nothing. Over any digest function.
use mathlib.Core.Path.{◌≡◌, sym, ◌∙◌}
use mathlib.Core.List.{List, [], ◌∷◌}
use Prim.Native.Nat.{ℕ, ◌*◌, ◌<◌}
use native.Mathlib.Omega.{arith}
use lib.ListN.{length, take}
use Rattle.wire.specs.Slices.{differ}
use Rattle.order.specs.Order.{Test, ◌if◌, ◌is_not◌, ◌under◌, verdict}
use Rattle.order.proofs.Laws.{verdict_done}
use Rattle.shape.specs.Sizes.{size_of, leaves}
use Rattle.shape.proofs.Counting.{counts_known}
use Rattle.shape.proofs.Inside.{peaks_local, seen_local, broken_local}
use Rattle.nodes.specs.Nodes.{node_in}
use Rattle.nodes.proofs.Local.{node_local}
use Rattle.evidence_log.specs.Outcome.{root_order}
use Rattle.evidence_log.proofs.Local.{root_order_local}
use Rattle.letter.specs.Bytes.{index_in, record_in}
use Rattle.letter.specs.Items.{worked_root}
use Rattle.letter.specs.Checking.{behind_order, fields_order}
use Rattle.letter.proofs.Foreign.{foreign_local}
use Rattle.difference.specs.Outcome.{find_refused, settled}
use Rattle.letter_finder.specs.Outcome.{first_difference, own_order, find_over, find_outcome}
use Rattle.letter_finder.proofs.Stages.{find_parts}

module _ (size : ℕ) (rec letter first second : List ℕ) where
  -- any nodes that agree below the size
  pub find_over_local : (digest : List ℕ → List ℕ) (f g : ℕ → List ℕ) (short : Test) → ((p : ℕ) → p < size → f p ≡ g p)
      → find_over digest f short size rec letter first second ≡ find_over digest g short size rec letter first second
  unfolding root_order fields_order behind_order own_order
  find_over_local digest f g short e =
      let n = leaves size in
      let R = find_refused first second in
      find_parts digest f size rec letter first second short
      ∙ verdict_done R (root_order short size)
      (λ p. verdict_done R (fields_order size n letter) (λ q.
      let k = counts_known size p.0 in
      let same : (x : ℕ) → x < size_of n → f x ≡ g x = λ x h. e x (omega (arith, k.is)) in
      let inside : index_in letter < n = q.1.1.0 in
      let a = peaks_local digest f g n same in
      let b : own_order digest f n rec (index_in letter) ≡ own_order digest g n rec (index_in letter) =
      rw (foreign_local digest f g n (index_in letter) rec inside k.most same, broken_local digest f g n same (index_in letter) inside) in
      let c : first_difference digest f n letter ≡ first_difference digest g n letter = rw (seen_local digest f g n same (index_in letter)) in
      λ i. verdict R (9 if differ (a i) (worked_root digest n letter) is_not 0 ∷ [])
      (verdict R (b i) (settled (c i) (differ rec (record_in letter)) first second))))
      ∙ sym (find_parts digest g size rec letter first second short)

  -- two buffers that agree in their first 32 × size bytes
  pub find_local : (digest : List ℕ → List ℕ) (bs cs : List ℕ) → take (32 * size) bs ≡ take (32 * size) cs
      → find_outcome digest size bs rec letter first second ≡ find_outcome digest size cs rec letter first second
  unfolding find_outcome
  find_local digest bs cs same =
      find_over_local digest (node_in bs) (node_in cs) (length bs under 32 * size) (node_local size bs cs same)
      ∙ find_parts digest (node_in cs) size rec letter first second (length bs under 32 * size)
      ∙ root_order_local size bs cs same (find_refused first second) _
      ∙ sym (find_parts digest (node_in cs) size rec letter first second (length cs under 32 * size))
