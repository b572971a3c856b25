-- `stored_c::keeper_store_leaf` meets its contract: what the writer answers, and the length where it is done.
use Rattle.stored_c.specs.Nodes.{store_leaf_call}
use Rattle.kept.proofs.Writers.{write_put}
use Rattle.stored_c.proofs.keeper_store_leaf.Goals as goal

pub returns : goal.returns
unfolding store_leaf_call
returns c = rw (c.put.ensures.number, c.put.ensures.value) (write_put _ c.args.length.now c.write_leaf.result _ c.write_leaf.ensures)
