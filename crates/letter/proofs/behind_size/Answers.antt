-- `letter::behind_size` meets its contract: each refusal is the first of its order that applies, and where none does the fields are those read.
use mathlib.Core.Path.{◌≡◌, refl, ap, ◌∙◌}
use mathlib.Core.List.{List}
use Prim.Native.Nat.{ℕ, ◌≤◌, ◌<◌, ◌^◌}
use native.Mathlib.Omega.{arith}
use Rattle.order.proofs.Laws.{refuses, passes}
use Rattle.shape.proofs.Ways.{way_at_most}
use Rattle.letter.specs.Bytes.{index_in, stated_in}
use Rattle.letter.specs.Items.{item_count}
use Rattle.letter.specs.Checking.{items_for, behind_order, behind_outcome}
use borrow.Author.Rules.{rules}
use Rattle.letter.proofs.behind_size.Goals as goal

-- the number of items is that for the letter's index, and at most 64, whatever n is
counted : (n : ℕ) (letter : List ℕ) {i k : ℕ} → i ≡ index_in letter → k ≡ item_count n i → k ≡ items_for n letter
counted n letter e f = f ∙ ap (item_count n) e

few : (n i : ℕ) {k : ℕ} → n < 2 ^ 64 → k ≡ item_count n i → k ≤ 64
unfolding item_count
few n i p f = rw f (way_at_most 64 n i (omega arith))

pub returns-then-n-index : goal.returns-then-n-index
unfolding behind_outcome behind_order index_in
returns-then-n-index c = refuses 5 _ _ _ refl (search rules)

pub returns-then-length-gt-LONGEST_RECORD : goal.returns-then-length-gt-LONGEST_RECORD
unfolding behind_outcome behind_order index_in stated_in
returns-then-length-gt-LONGEST_RECORD c = refuses 3 _ _ _ refl (search rules)

pub overflow_mul-items : goal.overflow_mul-items
overflow_mul-items c = let f = few c.args.n c.read8-index.result (omega arith) c.item_count-items.ensures in omega arith

pub overflow_add-length-2 : goal.overflow_add-length-2
overflow_add-length-2 c = let f = few c.args.n c.read8-index.result (omega arith) c.item_count-items.ensures in omega arith

pub returns-then-letter-length : goal.returns-then-letter-length
unfolding behind_outcome behind_order index_in stated_in
returns-then-letter-length c =
    let k = counted c.args.n c.args.letter.now c.read8-index.ensures c.item_count-items.ensures in
    refuses 7 _ _ _ refl (search rules)

pub returns : goal.returns
unfolding behind_outcome behind_order index_in stated_in
returns c = let k = counted c.args.n c.args.letter.now c.read8-index.ensures c.item_count-items.ensures in passes _ _ _ (cc) (search rules)
