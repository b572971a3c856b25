-- What the finder returns, and what it leaves in the two buffers, for every input and any digest function: over any nodes, a function
-- from position to digest, with the test of number 4 handed in; then for a log's nodes in a buffer.
use Rattle.std.specs.Prelude.{List, [], ◌∷◌, ◌++◌, ℕ, ◌*◌, length}
use Rattle.wire.specs.Limits.{longest_record}
use Rattle.order.specs.Order.{Test, Refusal, ◌if◌, ◌is_not◌, ◌above◌, ◌under◌, verdict}
use Rattle.wire.specs.Slices.{differ}
use Rattle.shape.specs.Sizes.{leaves}
use Rattle.shape.specs.Positions.{peaks, fold}
use Rattle.shape.specs.Tree.{inputs}
use Rattle.shape.specs.Difference.{Diff, difference}
use Rattle.shape.specs.Seen.{seen, broken}
use Rattle.nodes.specs.Nodes.{node_in}
use Rattle.evidence_log.specs.Outcome.{root_order}
use Rattle.difference.specs.Outcome.{FindOutcome, find_refused, find_done, room_order}
use Rattle.letter.specs.Bytes.{index_in, record_in}
use Rattle.letter.specs.Items.{foreign, letter_tree}
use Rattle.letter.specs.Checking.{from7}

module _ (digest : List ℕ → List ℕ) (node : ℕ → List ℕ) where
  -- the root of its own nodes
  abbrev pub own_root : ℕ → List ℕ
  own_root n = fold digest node (peaks n)

  -- the first difference, from the root down, of each 64-byte input of the log and that of the letter
  abbrev pub first_difference : ℕ → List ℕ → Diff
  first_difference n letter =
      difference (seen digest node n (index_in letter)) (inputs digest (letter_tree digest n letter))

  -- the log's own record above 16,384; its digest isn't the leaf at its place; a node on the path, within its peak, isn't the digest of its two
  -- children
  unfoldable pub own_order : ℕ → List ℕ → ℕ → List Refusal
  own_order n rec index =
      3 if length rec above longest_record ∷ 13 if foreign digest node index rec is_not 0 ∷ 14 if broken digest node n index is_not 0 ∷ []

  -- 1, 10, 4, then the checking order from 7 with the root of its own nodes, then 3 and 13 for the log's own record, 14, 6
  unfoldable pub find_order : Test → ℕ → List ℕ → List ℕ → List ℕ → List ℕ → List Refusal
  find_order short size rec letter first second =
      let n = leaves size in
      root_order short size ++ from7 digest size n (own_root n) letter ++ own_order n rec (index_in letter) ++ room_order first second

  -- over any nodes and test of number 4
  unfoldable pub find_over : Test → ℕ → List ℕ → List ℕ → List ℕ → List ℕ → FindOutcome
  find_over short size rec letter first second =
      verdict (find_refused first second) (find_order short size rec letter first second)
      (find_done (first_difference (leaves size) letter) (differ rec (record_in letter)) first second)

-- nodes in a buffer; 4 where it is under 32 × size
unfoldable pub find_outcome : (List ℕ → List ℕ) → ℕ → List ℕ → List ℕ → List ℕ → List ℕ → List ℕ → FindOutcome
find_outcome digest size bs rec letter first second =
    find_over digest (node_in bs) (length bs under 32 * size) size rec letter first second
