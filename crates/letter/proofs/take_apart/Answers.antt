-- `letter::take_apart` meets its contract: 7 and 8 come first, and then what is answered behind the size.
use mathlib.Core.Path.{refl}
use mathlib.Core.List.{[], ◌∷◌}
use Rattle.order.specs.Order.{◌if◌, ◌under◌, ◌is_not◌}
use Rattle.order.proofs.Laws.{refuses, late}
use Rattle.letter.specs.Bytes.{head, size_in}
use Rattle.letter.specs.Checking.{behind_order, fields_order, behind_outcome, fields_outcome}
use borrow.Author.Rules.{rules}
use Rattle.letter.proofs.take_apart.Goals as goal

pub returns-then-letter-lt-HEAD : goal.returns-then-letter-lt-HEAD
unfolding fields_outcome fields_order behind_order
returns-then-letter-lt-HEAD c = refuses 7 _ _ _ refl (search rules)

pub returns-then-read8-size : goal.returns-then-read8-size
unfolding fields_outcome fields_order behind_order size_in
returns-then-read8-size c = refuses 8 _ _ _ refl (search rules)

pub returns : goal.returns
unfolding fields_outcome behind_outcome fields_order size_in
returns c = late _ (7 if _ under head ∷ 8 if _ is_not _ ∷ []) _ _ (search rules) c.behind_size.ensures
