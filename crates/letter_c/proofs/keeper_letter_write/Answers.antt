-- `letter_c::keeper_letter_write` meets its contract: what the writer answers, and the length where it is done.
use Rattle.letter_c.specs.Letters.{letter_write_call}
use Rattle.kept.proofs.Writers.{write_put}
use Rattle.letter_c.proofs.keeper_letter_write.Goals as goal

pub returns : goal.returns
unfolding letter_write_call
returns c = rw (c.put.ensures.number, c.put.ensures.value) (write_put _ _ _ _ c.write_letter.ensures)
