-- What the finder finds depends on the nodes below the size only: bytes of the node buffer beyond it mean nothing. Over any digest function.
use mathlib.Core.Path.{◌≡◌, refl, sym, ap, ◌∙◌}
use mathlib.Core.List.{List, [], ◌∷◌}
use Prim.Native.Nat.{ℕ, suc, ◌*◌, ◌^◌, ◌≤◌, ◌<◌}
use native.Mathlib.Omega.{arith}
use lib.ListN.{length, take}
use Rattle.wire.specs.Slices.{differ}
use Rattle.order.specs.Order.{Test, ◌if◌, ◌is_not◌, ◌under◌, verdict}
use Rattle.order.proofs.Laws.{verdict_done}
use Rattle.records.specs.Records.{cut}
use Rattle.shape.specs.Sizes.{size_of, leaves}
use Rattle.shape.specs.Tree.{inputs}
use Rattle.shape.specs.Difference.{difference}
use Rattle.shape.proofs.Counting.{counts_known}
use Rattle.shape.proofs.Inside.{peaks_local}
use Rattle.nodes.specs.Nodes.{node_in}
use Rattle.nodes.proofs.Local.{node_local}
use Rattle.views.specs.Passage.{Rising, passage}
use Rattle.views.proofs.Passages.{passage_of}
use Rattle.views.proofs.Local.{seen_local, broken_local}
use Rattle.evidence_log.specs.Outcome.{root_order}
use Rattle.evidence_log.proofs.Local.{root_order_local}
use Rattle.letter.proofs.Foreign.{foreign_local}
use Rattle.findings.specs.Outcome.{named_refused, named_settled}
use Rattle.passage.specs.Bytes.{indexes_in}
use Rattle.passage.specs.Digests.{letter_tree, worked_root}
use Rattle.passage.specs.Checking.{fields_order}
use Rattle.passage_fields.proofs.Fits.{pass_fits, fits_request}
use Rattle.passage_finder.specs.Outcome.{first_difference, records_order, own_order, records_apart, find_over, find_outcome}
use Rattle.passage_finder.specs.Steps.{comparing}
use Rattle.passage_finder.proofs.Stages.{find_parts}

module _ (digest : List ℕ → List ℕ) (f g : ℕ → List ℕ) (n : ℕ) (most : n ≤ 2 ^ 32) (e : (p : ℕ) → p < size_of n → f p ≡ g p) where
  records_local : (p : ℕ) (is : List ℕ) (rs : List (List ℕ)) → Rising p n is → records_order digest f is rs ≡ records_order digest g is rs
  unfolding records_order
  records_local p [] rs h = refl
  records_local p (i ∷ is) [] h = refl
  records_local p (i ∷ is) (r ∷ rs) h = rw (foreign_local digest f g n i r h.1 most e, records_local (suc i) is rs h.2)

  own_local : (is records lengths : List ℕ) → 0 < n → Rising 0 n is → own_order digest f n is records lengths ≡ own_order digest g n is records lengths
  unfolding own_order
  own_local is records lengths some h =
      rw (records_local 0 is (cut lengths records) h, broken_local digest f g n e some (passage n is) (passage_of n is some))

  difference_local : (letter : List ℕ) → 0 < n → first_difference digest f n letter ≡ first_difference digest g n letter
  difference_local letter some =
      let is = indexes_in letter in
      ap (λ (xs : List (List ℕ)). difference xs (inputs digest (letter_tree digest n letter)))
      (seen_local digest f g n e some (passage n is) (passage_of n is some))

module _ (size : ℕ) (records lengths letter first second : List ℕ) where
  -- any nodes that agree below the size
  pub find_over_local : (digest : List ℕ → List ℕ) (f g : ℕ → List ℕ) (short : Test) → ((p : ℕ) → p < size → f p ≡ g p)
      → find_over digest f short size records lengths letter first second ≡ find_over digest g short size records lengths letter first second
  unfolding root_order comparing
  find_over_local digest f g short e =
      let n = leaves size in
      let R = named_refused first second in
      find_parts digest f size records lengths letter first second short
      ∙ verdict_done R (root_order short size)
      (λ p. verdict_done R (fields_order size n letter) (λ q.
      let k = counts_known size p.0 in
      let some : 0 < n = omega (arith, p.1.0) in
      let same : (x : ℕ) → x < size_of n → f x ≡ g x = λ x h. e x (omega (arith, k.is)) in
      let asked = (fits_request size n letter (pass_fits size n letter q)).rising in
      let a = peaks_local digest f g n same in
      let b = own_local digest f g n k.most same (indexes_in letter) records lengths some asked in
      let c = difference_local digest f g n k.most same letter some in
      λ i. verdict R (9 if differ (a i) (worked_root digest n letter) is_not 0 ∷ [])
      (verdict R (b i) (named_settled (c i) (records_apart records lengths letter) first second))))
      ∙ sym (find_parts digest g size records lengths letter first second short)

  -- two buffers that agree in their first 32 × size bytes
  pub find_local : (digest : List ℕ → List ℕ) (bs cs : List ℕ) → take (32 * size) bs ≡ take (32 * size) cs
      → find_outcome digest size bs records lengths letter first second ≡ find_outcome digest size cs records lengths letter first second
  unfolding find_outcome
  find_local digest bs cs same =
      find_over_local digest (node_in bs) (node_in cs) (length bs under 32 * size) (node_local size bs cs same)
      ∙ find_parts digest (node_in cs) size records lengths letter first second (length bs under 32 * size)
      ∙ root_order_local size bs cs same (named_refused first second) _
      ∙ sym (find_parts digest (node_in cs) size records lengths letter first second (length cs under 32 * size))
