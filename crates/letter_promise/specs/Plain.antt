-- The promise by the plain rule, over any digest function: a log is a list of records, its root is the one that the rule gives, and its letters are
-- made from the records alone. No buffer and no position is asked for but the nodes that writer and finder are lent.
-- The statements hold of every digest function whose digests have 32 bytes; the theorems are these for BLAKE3 in every mode.
use Rattle.std.specs.Prelude.{◌≡◌, List, ℕ, ◌≤◌, ◌<◌, length}
use Rattle.wire.specs.Numbers.{Bytes}
use Rattle.wire.specs.Writers.{write_done}
use Rattle.shape.specs.Tree.{Tree}
use Rattle.shape.specs.Letter.{fill, items}
use Rattle.nodes.specs.Nodes.{Begins}
use Rattle.plain_rule.specs.Rule.{Split, plain_root}
use Rattle.plain_rule.specs.Tree.{plain_tree, turns}
use Rattle.letter.specs.Bytes.{letter_bytes, index_in, record_in, items_in}
use Rattle.letter_writer.specs.Outcome.{write_outcome}
use Rattle.letter_finder.specs.Outcome.{find_outcome}
use Rattle.letter_promise.specs.Terms.{Log, log_size, record_at, Accepted, Ends}

-- the letter for index i: size, index, the record and its length, and the roots of the sides that the way to it leaves
abbrev pub plain_letter : (List ℕ → List ℕ) → (rs : List (List ℕ)) → Split rs → ℕ → List ℕ
plain_letter digest rs s i = letter_bytes (log_size rs) i (record_at rs i) (items digest (plain_tree digest s) (turns s i))

-- the tree that bytes show: their record's digest where the turns to the index lead (`turns_lead`), and beside them their items
abbrev pub shown_tree : (List ℕ → List ℕ) → (rs : List (List ℕ)) → Split rs → List ℕ → Tree
shown_tree digest rs s letter = let w = turns s (index_in letter) in fill w (digest (record_in letter)) (items_in (length w) letter)

-- ---- the statements, of every log and however the rule splits it, which is one way

module _ (digest : List ℕ → List ℕ) where
  -- `letter_accepted_by_rule`: with the size and the rule's root the letter for every index is accepted, with that index and the log's record there
  abbrev pub LetterAcceptedByRule : Type 0
  LetterAcceptedByRule =
      (rs : List (List ℕ)) → Log rs → (s : Split rs) → (i : ℕ) → i < length rs
      → Accepted digest (log_size rs) (plain_root digest s) (plain_letter digest rs s i) i (record_at rs i)

  -- `letter_written_by_rule`: it is what the writer writes from any buffer that begins with the log's nodes, as appends leave it (`appends_build`),
  -- with room in the output
  abbrev pub LetterWrittenByRule : Type 0
  LetterWrittenByRule =
      (rs : List (List ℕ)) → Log rs → (s : Split rs) → (i : ℕ) → i < length rs → (bs : List ℕ) → Begins digest bs rs
      → (out : List ℕ) → length (plain_letter digest rs s i) ≤ length out
      → write_outcome digest (log_size rs) i (record_at rs i) bs out ≡ write_done (plain_letter digest rs s i) out

  -- `accepted_is_ours_by_rule`: bytes that are accepted with the size and the rule's root are that letter, or the finder, with such a buffer, gives
  -- two different strings with one digest, the log's and the bytes' own at one place
  abbrev pub AcceptedIsOursByRule : Type 0
  AcceptedIsOursByRule =
      (rs : List (List ℕ)) → Log rs → (s : Split rs) → (letter : List ℕ) → Bytes letter
      → (i : ℕ) (r : List ℕ) → Accepted digest (log_size rs) (plain_root digest s) letter i r
      → (bs : List ℕ) → Begins digest bs rs → (first second : List ℕ) → 64 ≤ length first → 64 ≤ length second
      → Ends digest (plain_letter digest rs s i) (record_at rs i) (plain_tree digest s) (shown_tree digest rs s letter) letter r first second
      (find_outcome digest (log_size rs) bs (record_at rs i) letter first second)
