-- What the finder's own steps are called, which no public contract cites: a letter of the right form compared.
use Rattle.std.specs.Prelude.{List, [], ◌∷◌, ℕ}
use Rattle.order.specs.Order.{◌if◌, ◌is_not◌, verdict}
use Rattle.wire.specs.Slices.{differ, rows_from}
use Rattle.shape.specs.Tree.{Tree, root, inputs}
use Rattle.shape.specs.Seen.{seen}
use Rattle.shape.specs.Difference.{difference}
use Rattle.nodes.specs.Nodes.{node_in}
use Rattle.letter.specs.Items.{item_count, tree_of}
use Rattle.difference.specs.Outcome.{FindOutcome, find_refused, settled}
use Rattle.letter_finder.specs.Outcome.{own_root, own_order}

-- the tree and the record of a letter compared: 9, then 3 and 13 for the log's own record, 14, and 6
abbrev pub comparing : (List ℕ → List ℕ) → List ℕ → ℕ → ℕ → List ℕ → Tree → List ℕ → List ℕ → List ℕ → FindOutcome
comparing digest bs n i rec tree theirs first second =
    verdict (find_refused first second) (9 if differ (own_root digest (node_in bs) n) (root digest tree) is_not 0 ∷ [])
    (verdict (find_refused first second) (own_order digest (node_in bs) n rec i)
    (settled (difference (seen digest (node_in bs) n i) (inputs digest tree)) (differ rec theirs) first second))

-- a letter of the right form compared, by its record and its items
unfoldable pub against_outcome : (List ℕ → List ℕ) → List ℕ → ℕ → ℕ → List ℕ → List ℕ → List ℕ → List ℕ → List ℕ → FindOutcome
against_outcome digest bs n i rec theirs items first second =
    comparing digest bs n i rec (tree_of digest n i theirs (rows_from 32 0 (item_count n i) items)) theirs first second
