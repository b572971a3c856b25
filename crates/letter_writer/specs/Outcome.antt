-- What writing a letter returns, and what it leaves in the output buffer, for every input and any digest function: over any nodes, a function
-- from position to digest, with the test of number 4 handed in; then for a log's nodes in a buffer.
use Rattle.std.specs.Prelude.{List, [], ◌∷◌, ℕ, ◌*◌, length}
use Rattle.wire.specs.Limits.{longest_record}
use Rattle.order.specs.Order.{Test, Refusal, ◌if◌, ◌is◌, ◌is_not◌, ◌above◌, ◌under◌, ◌not_below◌, verdict}
use Rattle.wire.specs.Writers.{WriteOutcome, write_refused, write_done}
use Rattle.shape.specs.Sizes.{count_answer, leaves}
use Rattle.nodes.specs.Nodes.{node_in}
use Rattle.letter.specs.Bytes.{letter_bytes}
use Rattle.letter.specs.Items.{items_of, foreign}

module _ (digest : List ℕ → List ℕ) where
  -- our letter for an index of a log of this size: its record, and the items that the log's nodes give
  unfoldable pub our_letter : ℕ → ℕ → List ℕ → (ℕ → List ℕ) → List ℕ
  our_letter size index rec node = letter_bytes size index rec (items_of digest node (leaves size) index)

  -- no leaf count up to 2^32 has this size; index not below the leaf count; record above 16,384; node buffer too short; record's digest isn't the
  -- leaf at its place; output buffer too short
  unfoldable pub write_order : (ℕ → List ℕ) → Test → ℕ → ℕ → List ℕ → List ℕ → List Refusal
  write_order node short size index rec out =
      1 if (count_answer size).number is 1
      ∷ 5 if index not_below leaves size
      ∷ 3 if length rec above longest_record
      ∷ 4 if short
      ∷ 13 if foreign digest node index rec is_not 0
      ∷ 6 if length out under length (our_letter size index rec node)
      ∷ []

  -- over any nodes and test of number 4
  unfoldable pub write_over : (ℕ → List ℕ) → Test → ℕ → ℕ → List ℕ → List ℕ → WriteOutcome
  write_over node short size index rec out =
      verdict (write_refused out) (write_order node short size index rec out) (write_done (our_letter size index rec node) out)

  -- nodes in a buffer; 4 where it is under 32 × size bytes
  unfoldable pub write_outcome : ℕ → ℕ → List ℕ → List ℕ → List ℕ → WriteOutcome
  write_outcome size index rec bs out = write_over (node_in bs) (length bs under 32 * size) size index rec out
