-- `passage_fields::take_front` meets its contract: what stands before the records, and then the records (`Front`).
use mathlib.Core.Logic.{inl, inr}
use mathlib.Core.Path.{refl, ap, ◌∙◌}
use native.Mathlib.Omega.{arith}
use Rattle.order.proofs.Laws.{refuses}
use Rattle.letter.specs.Bytes.{size_in}
use Rattle.passage.specs.Bytes.{count_in}
use Rattle.passage_fields.specs.Fields.{front_order, front_outcome}
use Rattle.passage_fields.specs.Steps.{records_outcome}
use Rattle.passage_fields.proofs.Front.{front_records}
use Rattle.passage_fields.proofs.take_front.Goals as goal

pub returns-then-letter-lt-HEAD : goal.returns-then-letter-lt-HEAD
unfolding front_outcome front_order
returns-then-letter-lt-HEAD c = refuses 7 _ _ _ refl (λ f. absurd (omega arith))

pub returns-then-read8-size : goal.returns-then-read8-size
unfolding front_outcome front_order size_in
returns-then-read8-size c = refuses 8 _ _ _ refl (omega arith, λ f. absurd (omega arith))

pub returns-then-count-lt1 : goal.returns-then-count-lt1
unfolding front_outcome front_order size_in count_in
returns-then-count-lt1 c = refuses 19 _ _ _ refl (omega arith, (omega arith, λ f g. absurd (elim c.then-count-lt1.either [ inl p ↦ omega arith | inr p ↦ omega arith ])))

-- what stands before the records passes, and then the records are those of the letter's own count
pub returns : goal.returns
unfolding size_in count_in
returns c =
    let a = c.args in
    front_records a.size a.n a.letter.now (omega arith, (omega arith, (omega arith, (omega arith, tt))))
    (c.take_records.ensures ∙ ap (records_outcome a.n a.letter.now) c.read2-count.ensures)
