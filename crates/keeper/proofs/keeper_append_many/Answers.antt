-- `keeper::keeper_append_many` meets its contract: what the log answers, and the two results where it is done.
use mathlib.Core.Path.{◌∙◌, ap}
use Rattle.keeper.specs.Calls.{append_over}
use Rattle.keeper.proofs.keeper_append_many.Goals as goal

pub returns : goal.returns
returns c = let a = c.args in c.put_grown.ensures a.size _ ∙ ap (append_over a.new_size.now a.hashes.now) c.append_many-answer.ensures
