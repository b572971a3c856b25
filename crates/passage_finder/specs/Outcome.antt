-- What the finder of a passage letter returns, and what it leaves in the two buffers, for every input and any digest function: over any nodes, a
-- function from position to digest, with the test of number 4 handed in; then for a log's nodes in a buffer.
use Rattle.std.specs.Prelude.{List, [], ◌∷◌, ◌++◌, ℕ, ◌*◌, length}
use Rattle.wire.specs.Limits.{longest_record}
use Rattle.order.specs.Order.{Test, Refusal, ◌if◌, ◌is_not◌, ◌above◌, ◌under◌, verdict}
use Rattle.records.specs.Records.{cut, sums_order}
use Rattle.shape.specs.Sizes.{leaves}
use Rattle.shape.specs.Tree.{inputs}
use Rattle.shape.specs.Difference.{Diff, difference}
use Rattle.views.specs.Passage.{passage}
use Rattle.views.specs.Shows.{seen_by, broken_by}
use Rattle.nodes.specs.Nodes.{node_in}
use Rattle.evidence_log.specs.Outcome.{root_order}
use Rattle.difference.specs.Outcome.{room_order}
use Rattle.findings.specs.Outcome.{NamedOutcome, named_refused, named_done, Apart, first_apart}
use Rattle.letter.specs.Items.{foreign}
use Rattle.letter_finder.specs.Outcome.{own_root}
use Rattle.passage.specs.Bytes.{indexes_in, records_in}
use Rattle.passage.specs.Digests.{letter_tree}
use Rattle.passage.specs.Checking.{from7}

-- the log's own records beside the letter's, by rising index
abbrev pub records_apart : List ℕ → List ℕ → List ℕ → Apart
records_apart records lengths letter = first_apart (indexes_in letter) (cut lengths records) (records_in letter)

module _ (digest : List ℕ → List ℕ) (node : ℕ → List ℕ) where
  -- the first difference, in the walk's order, of each 64-byte input of the log and that of the letter: from the root, left before right
  abbrev pub first_difference : ℕ → List ℕ → Diff
  first_difference n letter =
      difference (seen_by digest node (passage n (indexes_in letter)) n 0) (inputs digest (letter_tree digest n letter))

  -- the log's own records in turn, each at its index: above 16,384; its digest isn't the leaf at its place
  unfoldable pub records_order : List ℕ → List (List ℕ) → List Refusal
  records_order [] rs = []
  records_order (i ∷ is) [] = []
  records_order (i ∷ is) (r ∷ rs) = 3 if length r above longest_record ∷ 13 if foreign digest node i r is_not 0 ∷ records_order is rs

  -- not one length for each index; lengths that don't add up to the joined bytes; 3 and 13 per record; a node that the walk looks into, within its
  -- peak, isn't the digest of its two children
  unfoldable pub own_order : ℕ → List ℕ → List ℕ → List ℕ → List Refusal
  own_order n is records lengths =
      sums_order (length is) (length records) lengths
      ++ records_order is (cut lengths records)
      ++ (14 if broken_by digest node (passage n is) n 0 is_not 0 ∷ [])

  -- 1, 10, 4, then the checking order from 7 with the root of its own nodes, then 16, 3 and 13 for the log's own records, 14, 6
  unfoldable pub find_order : Test → ℕ → List ℕ → List ℕ → List ℕ → List ℕ → List ℕ → List Refusal
  find_order short size records lengths letter first second =
      let n = leaves size in
      root_order short size ++ from7 digest size n (own_root digest node n) letter ++ own_order n (indexes_in letter) records lengths
      ++ room_order first second

  -- over any nodes and test of number 4
  unfoldable pub find_over : Test → ℕ → List ℕ → List ℕ → List ℕ → List ℕ → List ℕ → NamedOutcome
  find_over short size records lengths letter first second =
      verdict (named_refused first second) (find_order short size records lengths letter first second)
      (named_done (first_difference (leaves size) letter) (records_apart records lengths letter) first second)

-- nodes in a buffer; 4 where it is under 32 × size
unfoldable pub find_outcome : (List ℕ → List ℕ) → ℕ → List ℕ → List ℕ → List ℕ → List ℕ → List ℕ → List ℕ → NamedOutcome
find_outcome digest size bs records lengths letter first second =
    find_over digest (node_in bs) (length bs under 32 * size) size records lengths letter first second
