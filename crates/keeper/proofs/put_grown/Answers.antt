-- `keeper::put_grown` meets its contract: the two results of an append that is done, and what was there of one that is refused.
use Rattle.keeper.proofs.Laws.{append_done_lem, append_refused_lem}
use Rattle.keeper.proofs.put_grown.Goals as goal

pub returns-in-Ok : goal.returns-in-Ok
returns-in-Ok c = λ size bs. rw c.in-Ok.is (append_done_lem c.args.new_size.now c.args.hashes.now c.in-Ok.grown size bs)

pub returns-in-Err : goal.returns-in-Err
returns-in-Err c = λ size bs. rw (c.from.ensures, c.in-Err.is) (append_refused_lem c.args.new_size.now c.args.hashes.now c.in-Err.why size bs)
