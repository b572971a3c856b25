-- The items of a letter, over any digest function: how many there are and can be, what a log's nodes, any function from position to digest, give for
-- them and for the leaf, the root worked out from them.
use Rattle.std.specs.Prelude.{◌≢◌, true, false, ◌&&◌, List, [], map, ℕ, ◌≤◌, ◌<◌, ltb, leb, length}
use Rattle.wire.specs.Limits.{most_leaves}
use Rattle.wire.specs.Slices.{differ}
use Rattle.shape.specs.Sizes.{count_answer, leaves, position_answer}
use Rattle.shape.specs.Positions.{item_positions, fold}
use Rattle.shape.specs.Tree.{Tree, root}
use Rattle.shape.specs.Letter.{fill}
use Rattle.shape.specs.Way.{way}
use Rattle.letter.specs.Bytes.{index_in, record_in, items_in}

-- the number of items for index i of n leaves: one for each turn on the way to it, as many as RULES 9.2 lists (`items_counted`)
unfoldable pub item_count : ℕ → ℕ → ℕ
item_count n i = length (way n i)

-- the most items that a letter has
abbrev pub most_items : ℕ
most_items = 32

-- no size and index within the limits needs more: for every size that has a leaf count up to 2^32, and every index below that count, those that
-- RULES 9.2 lists are at most 32 (`items_at_most`)
abbrev pub ItemsAtMost : Type 0
ItemsAtMost = (size i : ℕ) → (count_answer size).number ≢ 1 → i < leaves size → length (item_positions (leaves size) i) ≤ most_items

-- the leaf at index i's place
abbrev pub leaf_in : (ℕ → List ℕ) → ℕ → List ℕ
leaf_in node i = node (position_answer i).value

module _ (digest : List ℕ → List ℕ) where
  -- the items of index i, an index of n leaves, n at most 2^32, from the log's nodes: peaks left of i's peak, tallest first; siblings from the leaf
  -- upward; if peaks stand to the right, one digest, those peaks folded as for the root. Other numbers have no items
  unfoldable pub items_of : (ℕ → List ℕ) → ℕ → ℕ → List (List ℕ)
  items_of node n i =
      elim (ltb i n && leb n most_leaves) [ true ↦ map (fold digest node) (item_positions n i) | false ↦ [] ]

  -- 1 where a record's digest isn't the leaf at its place, else 0
  unfoldable pub foreign : (ℕ → List ℕ) → ℕ → List ℕ → ℕ
  foreign node i rec = differ (digest rec) (leaf_in node i)

  -- the tree that a record and items make on the way to index i of n leaves
  abbrev pub tree_of : ℕ → ℕ → List ℕ → List (List ℕ) → Tree
  tree_of n i rec items = fill (way n i) (digest rec) items

  -- the tree that a letter shows for a log of n leaves
  abbrev pub letter_tree : ℕ → List ℕ → Tree
  letter_tree n letter = tree_of n (index_in letter) (record_in letter) (items_in (item_count n (index_in letter)) letter)

  -- the root worked out from a letter
  unfoldable pub worked_root : ℕ → List ℕ → List ℕ
  worked_root n letter = root digest (letter_tree n letter)
