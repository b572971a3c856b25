-- What writing a passage letter returns, and what it leaves in the output buffer, for every input and any digest function: over any nodes, a function
-- from position to digest, with the test of number 4 handed in; then for a log's nodes in a buffer.
use Rattle.std.specs.Prelude.{List, [], ◌∷◌, ◌++◌, ℕ, ◌*◌, length}
use Rattle.order.specs.Order.{Test, Refusal, ◌if◌, ◌is◌, ◌under◌, verdict}
use Rattle.wire.specs.Writers.{WriteOutcome, write_refused, write_done}
use Rattle.records.specs.Records.{cut, sums_order}
use Rattle.shape.specs.Sizes.{count_answer, leaves}
use Rattle.nodes.specs.Nodes.{node_in}
use Rattle.passage.specs.Bytes.{passage_bytes}
use Rattle.passage.specs.Request.{request_order}
use Rattle.passage.specs.Digests.{digests_of}
use Rattle.passage_foresight.specs.Order.{limits_order, foreign_order}

module _ (digest : List ℕ → List ℕ) where
  -- our letter for these indexes of a log of this size: the records at them, and the digests that the log's nodes give
  unfoldable pub our_passage : ℕ → List ℕ → List (List ℕ) → (ℕ → List ℕ) → List ℕ
  our_passage size indexes rs node = passage_bytes size indexes rs (digests_of digest node (leaves size) indexes)

  -- no leaf count up to 2^32 has this size; not a request; not one length for each index; lengths that don't add up to the joined bytes; 5 and 3 per
  -- record; node buffer too short; 13 per record; output buffer too short
  unfoldable pub write_order : (ℕ → List ℕ) → Test → ℕ → List ℕ → List ℕ → List ℕ → List ℕ → List Refusal
  write_order node short size indexes records lengths out =
      1 if (count_answer size).number is 1
      ∷ request_order indexes
      ++ sums_order (length indexes) (length records) lengths
      ++ limits_order (leaves size) indexes lengths
      ++ (4 if short ∷ [])
      ++ foreign_order digest node indexes (cut lengths records)
      ++ (6 if length out under length (our_passage size indexes (cut lengths records) node) ∷ [])

  -- over any nodes and test of number 4
  unfoldable pub write_over : (ℕ → List ℕ) → Test → ℕ → List ℕ → List ℕ → List ℕ → List ℕ → WriteOutcome
  write_over node short size indexes records lengths out =
      verdict (write_refused out) (write_order node short size indexes records lengths out)
      (write_done (our_passage size indexes (cut lengths records) node) out)

  -- nodes in a buffer; 4 where it is under 32 × size bytes
  unfoldable pub write_outcome : ℕ → List ℕ → List ℕ → List ℕ → List ℕ → List ℕ → WriteOutcome
  write_outcome size indexes records lengths bs out =
      write_over (node_in bs) (length bs under 32 * size) size indexes records lengths out
