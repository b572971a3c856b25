-- The root worked out from the digests of a letter's records and the bytes behind these is the letter's.
use mathlib.Core.Path.{◌≡◌, sym, ap, ◌∙◌}
use mathlib.Core.List.{List, [], map, map-map}
use Prim.Native.Nat.{ℕ, ◌*◌, ◌^◌, ◌≤◌, ◌<◌}
use native.Mathlib.Nat.{zero-add}
use native.Mathlib.Omega.{arith}
use lib.ListN.{length, length-map, get_or, drop}
use Rattle.wire.proofs.Parts.{part_drop}
use Rattle.wire.proofs.Rows.{digests_at}
use Rattle.shape.specs.Sizes.{height_of}
use Rattle.shape.specs.Tree.{root}
use Rattle.nodes.specs.Nodes.{node_in}
use Rattle.views.specs.View.{askeds, givens, plant_at}
use Rattle.views.specs.Passage.{passage}
use Rattle.views.proofs.Planted.{plant_at_lem}
use Rattle.views.proofs.Bounds.{passage_asks_most}
use Rattle.passage.specs.Bytes.{record_at, places, indexes_in, records_in, end_in, digests_in}
use Rattle.passage.specs.Digests.{digest_count, letter_tree, worked_root}
use Rattle.passage.proofs.Digests.{count_is}
use Rattle.passage_root.specs.Root.{leaf_digests, root_from}
use Rattle.passage_root.proofs.Hashed.{map_at, leaf_in_lem}
use Rattle.passage_root.proofs.Root.{root_within}

-- the digests that follow the records, by their numbers
given_in : (k : ℕ) (letter : List ℕ) (j : ℕ) → j < k → get_or (digests_in k letter) j [] ≡ node_in (drop (end_in letter) letter) j
unfolding digests_in node_in
given_in k letter j h = digests_at (end_in letter) k letter j h ∙ sym (part_drop (32 * j) 32 (end_in letter) letter)

module _ (digest : List ℕ → List ℕ) (digest_32 : (x : List ℕ) → length (digest x) ≡ 32) (n : ℕ) (letter : List ℕ)
    (some : 0 < n) (most : n ≤ 2 ^ 32) (few : length (places letter) ≤ 256) where
  asked_length : length (indexes_in letter) ≡ length (places letter)
  unfolding indexes_in
  asked_length = length-map (places letter) _

  asks_most : askeds (passage n (indexes_in letter)) ≤ length (indexes_in letter)
  unfolding passage
  asks_most = passage_asks_most (height_of n) n 0 (indexes_in letter)

  leaf_digest : (k : ℕ) → k < length (places letter)
      → get_or (map digest (records_in letter)) k [] ≡ node_in (leaf_digests digest letter (places letter)) k
  unfolding records_in
  leaf_digest k h =
      ap (λ (ds : List (List ℕ)). get_or ds k []) (map-map digest (record_at letter) (places letter))
      ∙ map_at (λ (at : ℕ). digest (record_at letter at)) (places letter) k h
      ∙ sym (leaf_in_lem digest digest_32 letter (places letter) k h (omega arith))

  -- the tree by the numbers of the digests is the one that the letter shows ..
  pub tree_worked : plant_at (node_in (leaf_digests digest letter (places letter))) (node_in (drop (end_in letter) letter))
      (passage n (indexes_in letter)) 0 0
      ≡ letter_tree digest n letter
  tree_worked =
      let is = indexes_in letter in
      let v = passage n is in
      let ls = leaf_digests digest letter (places letter) in
      let xs = drop (end_in letter) letter in
      let e : digest_count n is ≡ givens v = count_is n is some most (omega (arith, asked_length)) in
      sym (plant_at_lem (node_in ls) (node_in xs) v 0 0 (map digest (records_in letter)) (digests_in (digest_count n is) letter)
      (λ k p. leaf_digest k (omega (arith, asks_most, asked_length)) ∙ ap (node_in ls) (sym (zero-add k)))
      (λ k p. given_in (digest_count n is) letter k (omega arith) ∙ ap (node_in xs) (sym (zero-add k))))

  -- .. and so is its root
  pub root_worked : root_from digest n (indexes_in letter) letter (places letter) (drop (end_in letter) letter) ≡ worked_root digest n letter
  unfolding worked_root
  root_worked =
      root_within digest n (indexes_in letter) letter (places letter) (drop (end_in letter) letter) some most (omega (arith, asked_length))
      ∙ ap (root digest) tree_worked
