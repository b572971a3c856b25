-- The digests of a passage letter: how many there are, what a log's nodes give for them, the exact length of the letter, and the root worked out from it.
use Rattle.std.specs.Prelude.{Bool, true, false, ◌&&◌, List, [], map, ℕ, ◌+◌, ◌*◌, ltb, leb, length}
use Rattle.wire.specs.Limits.{most_leaves}
use Rattle.records.specs.Records.{total}
use Rattle.shape.specs.Tree.{Tree, root}
use Rattle.views.specs.View.{givens, plant}
use Rattle.views.specs.Passage.{passage}
use Rattle.views.specs.Shows.{gives_by}
use Rattle.passage.specs.Bytes.{head, frame, indexes_in, records_in, digests_in}
use Rattle.passage.specs.Request.{most_records}

-- 1 to 2^32 leaves and at most 256 indexes: for other numbers there are no digests
unfoldable pub within : ℕ → List ℕ → Bool
within n is = ltb 0 n && leb n most_leaves && leb (length is) most_records

-- how many digests the letter for these indexes of n leaves has: one for each largest subtree of the folded tree that holds none of them
-- (`passage_largest`)
unfoldable pub digest_count : ℕ → List ℕ → ℕ
digest_count n is = elim (within n is) [ true ↦ givens (passage n is) | false ↦ 0 ]

-- the exact length of a letter for n leaves, these indexes and records of these lengths
unfoldable pub exact_length : ℕ → List ℕ → List ℕ → ℕ
exact_length n is lengths = head + (frame * length is + total lengths) + 32 * digest_count n is

module _ (digest : List ℕ → List ℕ) where
  -- the digests for these indexes of n leaves, from the log's nodes: from the root, left before right, that of each such subtree
  unfoldable pub digests_of : (ℕ → List ℕ) → ℕ → List ℕ → List (List ℕ)
  digests_of node n is = elim (within n is) [ true ↦ gives_by digest node (passage n is) n 0 | false ↦ [] ]

  -- the tree that records and digests make for these indexes of n leaves: each record's digest at its index, and the digests in the walk's order
  abbrev pub tree_of : ℕ → List ℕ → List (List ℕ) → List (List ℕ) → Tree
  tree_of n is rs digests = plant (passage n is) (map digest rs) digests

  -- the tree that a letter shows for a log of n leaves
  abbrev pub letter_tree : ℕ → List ℕ → Tree
  letter_tree n letter = let is = indexes_in letter in tree_of n is (records_in letter) (digests_in (digest_count n is) letter)

  -- the root worked out from a letter
  unfoldable pub worked_root : ℕ → List ℕ → List ℕ
  worked_root n letter = root digest (letter_tree n letter)
