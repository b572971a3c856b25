-- What the writer does depends on the nodes below the size only: bytes of the node buffer beyond it mean nothing. Over any digest function.
use mathlib.Core.Path.{◌≡◌, ◌∙◌}
use mathlib.Core.List.{List, [], ◌∷◌}
use Prim.Native.Nat.{ℕ, ◌*◌, ◌<◌}
use native.Mathlib.Omega.{arith}
use lib.ListN.{length, take, drop}
use Rattle.wire.specs.Limits.{longest_record}
use Rattle.wire.specs.Writers.{WriteOutcome, write_refused, write_done}
use Rattle.order.specs.Order.{Test, Refusal, ◌if◌, ◌is◌, ◌above◌, ◌under◌, ◌not_below◌, verdict}
use Rattle.order.proofs.Laws.{verdict_both, verdict_test}
use Rattle.shape.specs.Sizes.{size_of, count_answer, leaves}
use Rattle.shape.proofs.Counting.{counts_known}
use Rattle.nodes.specs.Nodes.{node_in}
use Rattle.nodes.proofs.Local.{node_local, short_local}
use Rattle.letter.specs.Bytes.{letter_bytes}
use Rattle.letter.proofs.ItemsOf.{items_of_local}
use Rattle.letter.proofs.Foreign.{foreign_local}
use Rattle.letter_writer.specs.Outcome.{our_letter, write_order, write_over, write_outcome}

-- any nodes that agree below the size
module _ (digest : List ℕ → List ℕ) (f g : ℕ → List ℕ) (short : Test) (size index : ℕ) (rec out : List ℕ)
    (e : (p : ℕ) → p < size → f p ≡ g p) where
  abbrev order : (ℕ → List ℕ) → List Refusal
  order node = write_order digest node short size index rec out

  abbrev done : (ℕ → List ℕ) → WriteOutcome
  done node = write_done (our_letter digest size index rec node) out

  pub write_over_local : write_over digest f short size index rec out ≡ write_over digest g short size index rec out
  unfolding write_over write_order our_letter
  write_over_local =
      let R = write_refused out in
      verdict_both R 1 ((count_answer size).number is 1) (drop 1 (order f)) (drop 1 (order g)) (done f) (done g) λ a.
      verdict_both R 5 (index not_below leaves size) (drop 2 (order f)) (drop 2 (order g)) (done f) (done g) λ b.
      let k = counts_known size a in
      let same : (p : ℕ) → p < size_of (leaves size) → f p ≡ g p = λ p h. e p (omega (arith, k.is)) in
      let leaf = foreign_local digest f g (leaves size) index rec b k.most same in
      let items = items_of_local digest f g (leaves size) index b k.most same in
      let tests : order f ≡ order g = rw (leaf, items) in
      λ i. verdict R (drop 2 (tests i)) (write_done (letter_bytes size index rec (items i)) out)

-- two buffers that agree in their first 32 × size bytes
pub write_local : (digest : List ℕ → List ℕ) (size index : ℕ) (rec bs cs out : List ℕ) → take (32 * size) bs ≡ take (32 * size) cs
    → write_outcome digest size index rec bs out ≡ write_outcome digest size index rec cs out
unfolding write_outcome write_over write_order
write_local digest size index rec bs cs out same =
    write_over_local digest (node_in bs) (node_in cs) (length bs under 32 * size) size index rec out (node_local size bs cs same)
    ∙ verdict_test (write_refused out)
    (1 if (count_answer size).number is 1 ∷ 5 if index not_below leaves size ∷ 3 if length rec above longest_record ∷ [])
    _ 4 (length bs under 32 * size) (length cs under 32 * size) _ (short_local size bs cs same)
