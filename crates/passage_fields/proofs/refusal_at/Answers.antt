-- `passage_fields::refusal_at` meets its contract: each refusal is the first of one record's tests that applies.
use borrow.Author.Rules.{rules}
use Rattle.order.proofs.Laws.{first_is, first_none}
use Rattle.passage.specs.Checking.{record_order}
use Rattle.passage_fields.proofs.refusal_at.Goals as goal

pub returns-then-rest-lt-FRAME : goal.returns-then-rest-lt-FRAME
unfolding record_order
returns-then-rest-lt-FRAME c = first_is _ _ (search rules)

pub returns-then-index-floor : goal.returns-then-index-floor
unfolding record_order
returns-then-index-floor c = first_is _ _ (search rules)

pub returns-then-n-index : goal.returns-then-n-index
unfolding record_order
returns-then-n-index c = first_is _ _ (search rules)

pub returns-then-stated-gt-LONGEST_RECORD : goal.returns-then-stated-gt-LONGEST_RECORD
unfolding record_order
returns-then-stated-gt-LONGEST_RECORD c = first_is _ _ (search rules)

pub returns-then-rest-stated : goal.returns-then-rest-stated
unfolding record_order
returns-then-rest-stated c = first_is _ _ (search rules)

pub returns : goal.returns
unfolding record_order
returns c = first_none _ (search rules)
