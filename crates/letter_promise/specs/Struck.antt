-- Number 15, which is struck. It was answered where a letter would need more than 32 items, and none does (`items_at_most` of `letter`). Here are the
-- orders of writing, checking and finding as they were with it, and what is proved of them: for every input, over any digest function, any nodes and
-- any test of number 4, the outcome by the order with 15 is the outcome without it; and no input is answered 15.
use Rattle.std.specs.Prelude.{◌≢◌, ◌≡◌, List, [], ◌∷◌, ◌++◌, ℕ, length}
use Rattle.wire.specs.Limits.{longest_record}
use Rattle.wire.specs.Slices.{differ}
use Rattle.wire.specs.Writers.{write_refused, write_done}
use Rattle.order.specs.Order.{Test, Refusal, ◌if◌, ◌is◌, ◌is_not◌, ◌above◌, ◌under◌, ◌not_below◌, verdict}
use Rattle.shape.specs.Sizes.{count_answer, leaves}
use Rattle.evidence_log.specs.Outcome.{root_order}
use Rattle.difference.specs.Outcome.{find_refused, find_done, room_order}
use Rattle.letter.specs.Bytes.{head, size_in, index_in, stated_in, record_in}
use Rattle.letter.specs.Items.{item_count, foreign, worked_root}
use Rattle.letter.specs.Checking.{items_for, exact_length}
use Rattle.letter_writer.specs.Outcome.{our_letter, write_over}
use Rattle.letter_checker.specs.Outcome.{check_refused, check_done, check_outcome}
use Rattle.letter_finder.specs.Outcome.{own_root, first_difference, own_order, find_over}

module _ (digest : List ℕ → List ℕ) where
  -- ---- the orders with 15

  -- writing: 1, 5, 3, 4, 15, 13, 6
  unfoldable pub write_with15 : (ℕ → List ℕ) → Test → ℕ → ℕ → List ℕ → List ℕ → List Refusal
  write_with15 node short size index rec out =
      1 if (count_answer size).number is 1
      ∷ 5 if index not_below leaves size
      ∷ 3 if length rec above longest_record
      ∷ 4 if short
      ∷ 15 if item_count (leaves size) index above 32
      ∷ 13 if foreign digest node index rec is_not 0
      ∷ 6 if length out under length (our_letter digest size index rec node)
      ∷ []

  -- checking, from 7: 7 (under 20 bytes), 8, 5, 15, 3, 7 (exact length), 9
  unfoldable pub from7_with15 : ℕ → ℕ → List ℕ → List ℕ → List Refusal
  from7_with15 size n root letter =
      7 if length letter under head
      ∷ 8 if size_in letter is_not size
      ∷ 5 if index_in letter not_below n
      ∷ 15 if items_for n letter above 32
      ∷ 3 if stated_in letter above longest_record
      ∷ 7 if length letter is_not exact_length n letter
      ∷ 9 if differ root (worked_root digest n letter) is_not 0
      ∷ []

  -- checking: 1, 12, then from 7
  unfoldable pub check_with15 : ℕ → List ℕ → List ℕ → List Refusal
  check_with15 size root letter =
      1 if (count_answer size).number is 1 ∷ 12 if length root is_not 32 ∷ from7_with15 size (leaves size) root letter

  -- the finder: 1, 10, 4, then from 7 with the root of its own nodes, then 3 and 13 for the log's own record, 14, 6
  unfoldable pub find_with15 : (ℕ → List ℕ) → Test → ℕ → List ℕ → List ℕ → List ℕ → List ℕ → List Refusal
  find_with15 node short size rec letter first second =
      let n = leaves size in
      root_order short size ++ from7_with15 size n (own_root digest node n) letter ++ own_order digest node n rec (index_in letter) ++ room_order first second

  -- ---- what is proved of them

  -- `write_struck`
  abbrev pub WriteStruck : Type 0
  WriteStruck =
      (node : ℕ → List ℕ) (short : Test) (size index : ℕ) (rec out : List ℕ) → let o = write_over digest node short size index rec out in
      (verdict (write_refused out) (write_with15 node short size index rec out) (write_done (our_letter digest size index rec node) out) ≡ o)
      × (o.number ≢ 15)

  -- `check_struck`
  abbrev pub CheckStruck : Type 0
  CheckStruck =
      (size : ℕ) (root letter : List ℕ) → let o = check_outcome digest size root letter in
      (verdict check_refused (check_with15 size root letter) (check_done letter) ≡ o) × (o.number ≢ 15)

  -- `find_struck`
  abbrev pub FindStruck : Type 0
  FindStruck =
      (node : ℕ → List ℕ) (short : Test) (size : ℕ) (rec letter first second : List ℕ)
      → let o = find_over digest node short size rec letter first second in
      (verdict (find_refused first second) (find_with15 node short size rec letter first second)
      (find_done (first_difference digest node (leaves size) letter) (differ rec (record_in letter)) first second) ≡ o)
      × (o.number ≢ 15)
