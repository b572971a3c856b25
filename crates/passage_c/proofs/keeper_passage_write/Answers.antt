-- `passage_c::keeper_passage_write` meets its contract: what the writer answers, and its length where it is done.
use Rattle.kept.proofs.Writers.{write_put}
use Rattle.passage_c.specs.Calls.{write_passage_call}
use Rattle.passage_c.proofs.keeper_passage_write.Goals as goal

pub returns : goal.returns
unfolding write_passage_call
returns c = rw (c.put.ensures.number, c.put.ensures.value) (write_put _ _ _ _ c.write_passage-answer.ensures)
