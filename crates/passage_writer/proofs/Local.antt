-- What the writer does depends on the nodes below the size only: bytes of the node buffer beyond it mean nothing. Over any digest function.
use mathlib.Core.Path.{◌≡◌, refl, sym, ap, ap₂, ◌∙◌}
use mathlib.Core.List.{List, [], ◌∷◌, ◌++◌}
use Prim.Native.Nat.{ℕ, ◌*◌, ◌^◌, ◌≤◌, ◌<◌}
use native.Mathlib.Omega.{arith}
use lib.ListN.{length, take, drop}
use Rattle.order.specs.Order.{Test, Refusal, ◌if◌, ◌is◌, ◌is_not◌, ◌under◌, verdict}
use Rattle.order.proofs.Laws.{Passes, pass_parts, verdict_append, verdict_done, verdict_test}
use Rattle.wire.specs.Writers.{WriteOutcome, write_refused, write_done}
use Rattle.records.specs.Records.{cut, sums_order}
use Rattle.shape.specs.Sizes.{size_of, count_answer, leaves}
use Rattle.shape.proofs.Counting.{counts_known}
use Rattle.nodes.specs.Nodes.{node_in}
use Rattle.nodes.proofs.Local.{node_local, short_local}
use Rattle.letter.proofs.Foreign.{foreign_local}
use Rattle.passage.specs.Bytes.{passage_bytes}
use Rattle.passage.specs.Request.{request_order}
use Rattle.passage_digests.proofs.Local.{digests_local}
use Rattle.passage_foresight.specs.Order.{limits_order, foreign_order}
use Rattle.passage_writer.specs.Outcome.{our_passage, write_order, write_over, write_outcome}

-- records whose indexes are below the leaf count
owned_local : (digest : List ℕ → List ℕ) (f g : ℕ → List ℕ) (n : ℕ) → n ≤ 2 ^ 32 → ((p : ℕ) → p < size_of n → f p ≡ g p)
    → (js ks bs : List ℕ) → Passes (limits_order n js ks) → foreign_order digest f js (cut ks bs) ≡ foreign_order digest g js (cut ks bs)
unfolding limits_order foreign_order cut
owned_local digest f g n few e [] ks bs p = refl
owned_local digest f g n few e (j ∷ js) [] bs p = refl
owned_local digest f g n few e (j ∷ js) (k ∷ ks) bs p =
    ap₂ {C = List Refusal} (λ (x : ℕ) (xs : List Refusal). 13 if x is_not 0 ∷ xs) (foreign_local digest f g n j (take k bs) p.0 few e)
    (owned_local digest f g n few e js ks (drop k bs) p.1.1)

module _ (digest : List ℕ → List ℕ) (size : ℕ) (indexes records lengths out : List ℕ) where
  -- what comes before the nodes are looked at
  abbrev sums : List Refusal
  sums = 1 if (count_answer size).number is 1 ∷ request_order indexes ++ sums_order (length indexes) (length records) lengths

  abbrev limits : List Refusal
  limits = sums ++ limits_order (leaves size) indexes lengths

  -- and what comes then
  abbrev ours : (ℕ → List ℕ) → List ℕ
  ours node = our_passage digest size indexes (cut lengths records) node

  abbrev rest : (ℕ → List ℕ) → WriteOutcome
  rest node =
      verdict (write_refused out) (foreign_order digest node indexes (cut lengths records))
      (verdict (write_refused out) (6 if length out under length (ours node) ∷ []) (write_done (ours node) out))

  parts : (node : ℕ → List ℕ) (short : Test)
      → write_over digest node short size indexes records lengths out ≡ verdict (write_refused out) (limits ++ (4 if short ∷ [])) (rest node)
  unfolding write_over write_order
  parts node short =
      let front = limits ++ (4 if short ∷ []) in
      let owned = foreign_order digest node indexes (cut lengths records) in
      let last : List Refusal = 6 if length out under length (ours node) ∷ [] in
      verdict_append (write_refused out) (front ++ owned) last (write_done (ours node) out)
      ∙ verdict_append (write_refused out) front owned (verdict (write_refused out) last (write_done (ours node) out))

  -- any nodes that agree below the size
  module _ (f g : ℕ → List ℕ) (short : Test) (e : (p : ℕ) → p < size → f p ≡ g p) where
    same : Passes (limits ++ (4 if short ∷ [])) → rest f ≡ rest g
    unfolding our_passage
    same p =
        let a = pass_parts limits (4 if short ∷ []) p in
        let b = pass_parts sums (limits_order (leaves size) indexes lengths) a.0 in
        let k = counts_known size b.0.0 in
        let below : (q : ℕ) → q < size_of (leaves size) → f q ≡ g q = λ q h. e q (omega (arith, k.is)) in
        let o = owned_local digest f g (leaves size) k.most below indexes lengths records b.1 in
        let l : ours f ≡ ours g = ap (passage_bytes size indexes (cut lengths records)) (digests_local digest f g (leaves size) indexes below) in
        ap₂ (λ (x : List Refusal) (y : List ℕ). verdict (write_refused out) x
        (verdict (write_refused out) (6 if length out under length y ∷ []) (write_done y out))) o l

    pub write_over_local : write_over digest f short size indexes records lengths out ≡ write_over digest g short size indexes records lengths out
    write_over_local = parts f short ∙ verdict_done (write_refused out) (limits ++ (4 if short ∷ [])) same ∙ sym (parts g short)

  -- two buffers that agree in their first 32 × size bytes
  pub write_local : (bs cs : List ℕ) → take (32 * size) bs ≡ take (32 * size) cs
      → write_outcome digest size indexes records lengths bs out ≡ write_outcome digest size indexes records lengths cs out
  unfolding write_outcome
  write_local bs cs agree =
      let short : List ℕ → Test = λ x. length x under 32 * size in
      write_over_local (node_in bs) (node_in cs) (short bs) (node_local size bs cs agree)
      ∙ parts (node_in cs) (short bs)
      ∙ verdict_test (write_refused out) limits [] 4 (short bs) (short cs) (rest (node_in cs)) (short_local size bs cs agree)
      ∙ sym (parts (node_in cs) (short cs))
