-- An append to a buffer that begins with a log's nodes, and the root of such a buffer, over any digest function.
use mathlib.Core.Path.{◌≡◌, refl, sym, ap, ap₂, ◌∙◌}
use mathlib.Core.List.{List, [], ◌∷◌, ◌++◌, map, map-append}
use Prim.Native.Nat.{ℕ, suc, ◌+◌, ◌*◌, ◌^◌, ◌≤◌, ◌<◌}
use native.Mathlib.Nat.{zero-add}
use native.Mathlib.Omega.{arith}
use borrow.Author.Rules.{rules}
use lib.ListN.{length, drop, take-append-drop, length-take, length-map}
use Rattle.order.proofs.Laws.{passes}
use Rattle.wire.specs.Slices.{splice, Each, joined}
use Rattle.shape.specs.Sizes.{size_of, hash_count, leaves}
use Rattle.shape.specs.Tree.{root}
use Rattle.shape.specs.Folded.{tree}
use Rattle.shape.specs.Nodes.{Holds, nodes, new_nodes}
use Rattle.shape.specs.Positions.{peaks, fold}
use Rattle.shape.proofs.Sizes.{size_suc}
use Rattle.wire.proofs.Each.{each_map}
use Rattle.shape.proofs.Nodes.{nodes_length, nodes_32}
use Rattle.shape.proofs.Appends.{append_nodes, new_length}
use Rattle.shape.proofs.Reading.{root_read}
use Rattle.nodes.specs.Nodes.{node_in, nodes_of, Begins}
use Rattle.evidence_log.specs.Outcome.{append_order, append_done, append_over, put_nodes, append_outcome, root_order, root_done, root_over, root_outcome}
use Rattle.wire.proofs.Joined.{joined_length, joined_append}
use Rattle.nodes.proofs.Joined.{node_joined}
use Rattle.new_nodes.proofs.Climbs.{new_sized}
use Rattle.shape.proofs.Counting.{Counts, counts_size}

module _ (digest : List ℕ → List ℕ) (digest_32 : (x : List ℕ) → length (digest x) ≡ 32) where
  -- each node has 32 bytes, and there are as many as the size says
  log_32 : (rs : List (List ℕ)) → Each 32 (nodes digest (map digest rs))
  log_32 rs = nodes_32 digest digest_32 (map digest rs) (each_map 32 digest digest_32 rs)

  log_length : (rs : List (List ℕ)) → length (nodes digest (map digest rs)) ≡ size_of (length rs)
  log_length rs = nodes_length digest (map digest rs) ∙ ap size_of (length-map rs digest)

  pub nodes_bytes : (rs : List (List ℕ)) → length (nodes_of digest rs) ≡ 32 * size_of (length rs)
  unfolding nodes_of
  nodes_bytes rs = joined_length (nodes digest (map digest rs)) (log_32 rs) ∙ ap (λ (x : ℕ). 32 * x) (log_length rs)

  module _ (rs : List (List ℕ)) (bs : List ℕ) (b : Begins digest bs rs) where
    -- the buffer holds the log's nodes, each at its position
    pub begins_hold : Holds (node_in bs) 0 (nodes digest (map digest rs))
    unfolding nodes_of
    begins_hold k h =
        let whole : bs ≡ nodes_of digest rs ++ drop (32 * size_of (length rs)) bs =
        sym (take-append-drop (32 * size_of (length rs)) bs) ∙ ap (λ (l : List ℕ). l ++ drop (32 * size_of (length rs)) bs) b in
        ap₂ node_in whole (zero-add k)
        ∙ node_joined (nodes digest (map digest rs)) (drop (32 * size_of (length rs)) bs) k (log_32 rs) h

    pub begins_long : 32 * size_of (length rs) ≤ length bs
    begins_long = omega (arith, length-take (32 * size_of (length rs)) bs, ap length b, nodes_bytes rs)

  module _ (rs : List (List ℕ)) (r bs : List ℕ) (few : length rs < 2 ^ 32) (b : Begins digest bs rs) where
    k : Counts (size_of (length rs)) (length rs)
    k = counts_size (length rs) (omega arith)

    -- the old nodes and the new ones are the nodes of one record more
    old_and_new : nodes_of digest rs ++ joined (new_nodes digest (node_in bs) (leaves (size_of (length rs))) (digest r)) ≡ nodes_of digest (rs ++ (r ∷ []))
    unfolding nodes_of
    old_and_new =
        let ds = map digest rs in
        let n : leaves (size_of (length rs)) ≡ length ds = k.value ∙ sym (length-map rs digest) in
        ap (λ (x : ℕ). joined (nodes digest ds) ++ joined (new_nodes digest (node_in bs) x (digest r))) n
        ∙ sym (joined_append (nodes digest ds) (new_nodes digest (node_in bs) (length ds) (digest r)))
        ∙ ap joined (append_nodes digest (node_in bs) ds (digest r) (begins_hold rs bs b) ∙ ap (nodes digest) (sym (map-append digest rs (r ∷ []))))

    new_bytes : length (joined (new_nodes digest (node_in bs) (leaves (size_of (length rs))) (digest r))) ≡ 32 * hash_count (length rs)
    new_bytes =
        let n = leaves (size_of (length rs)) in
        joined_length (new_nodes digest (node_in bs) n (digest r)) (new_sized digest digest_32 (node_in bs) n (digest r) (digest_32 r))
        ∙ ap (λ (x : ℕ). 32 * x) (new_length digest (node_in bs) n (digest r) ∙ ap hash_count k.value)

    grown : splice (32 * size_of (length rs)) (joined (new_nodes digest (node_in bs) (leaves (size_of (length rs))) (digest r))) bs
        ≡ nodes_of digest (rs ++ (r ∷ [])) ++ drop (32 * size_of (suc (length rs))) bs
    unfolding splice
    grown =
        let e : 32 * size_of (length rs) + length (joined (new_nodes digest (node_in bs) (leaves (size_of (length rs))) (digest r)))
        ≡ 32 * size_of (suc (length rs)) =
        omega (arith, new_bytes, size_suc (length rs)) in
        ap₂ (λ (x : List ℕ) (at : ℕ). x ++ joined (new_nodes digest (node_in bs) (leaves (size_of (length rs))) (digest r)) ++ drop at bs) b e
        ∙ ap (λ (x : List ℕ). x ++ drop (32 * size_of (suc (length rs))) bs) old_and_new

    -- an append of a record within the limits, with room: the nodes of one record more, and what lay beyond them
    pub append_grows : length r ≤ 16384 → 32 * size_of (suc (length rs)) ≤ length bs
        → append_outcome digest (size_of (length rs)) r bs
        ≡ record {
          number = 0;
          size = size_of (suc (length rs));
          hashes = hash_count (length rs);
          bytes = nodes_of digest (rs ++ (r ∷ [])) ++ drop (32 * size_of (suc (length rs))) bs;
        }
    unfolding append_outcome append_over append_order append_done
    append_grows short room =
        let c = k in
        let s : size_of (suc (leaves (size_of (length rs)))) ≡ size_of (suc (length rs)) = ap (λ (x : ℕ). size_of (suc x)) c.value in
        let t : hash_count (leaves (size_of (length rs))) ≡ hash_count (length rs) = ap hash_count c.value in
        sym (passes _ _ _ {r = append_done digest (node_in bs) (put_nodes (size_of (length rs)) bs) (size_of (length rs)) r} refl (search rules))
        ∙ (λ i. record { number = 0; size = s i; hashes = t i; bytes = grown i })

  -- the root of a buffer that begins with a log's nodes is that of the folded tree over the records' digests
  pub root_of_log : (rs : List (List ℕ)) (bs : List ℕ) → 0 < length rs → length rs ≤ 2 ^ 32 → Begins digest bs rs
      → root_outcome digest (size_of (length rs)) bs ≡ record { number = 0; root = root digest (tree (map digest rs)) }
  unfolding root_outcome root_over root_order root_done
  root_of_log rs bs some few b =
      let c = counts_size (length rs) few in
      let long = begins_long rs bs b in
      let n : leaves (size_of (length rs)) ≡ length (map digest rs) = c.value ∙ sym (length-map rs digest) in
      sym (passes _ _ _ {r = root_done digest (node_in bs) (size_of (length rs))} refl (search rules))
      ∙ (λ i. record {
        number = 0;
        root =
            (ap (λ (x : ℕ). fold digest (node_in bs) (peaks x)) n
            ∙ root_read digest (node_in bs) (map digest rs) (omega (arith, length-map rs digest)) (begins_hold rs bs b)) i;
      })
