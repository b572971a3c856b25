-- `stored_c::keeper_store_inner` meets its contract: 12, then what the writer answers, and the length where it is done.
use mathlib.Core.Path.{refl}
use native.Mathlib.Omega.{arith}
use Rattle.order.proofs.Laws.{refuses}
use Rattle.kept.proofs.Writers.{write_put}
use Rattle.stored_c.specs.Nodes.{store_inner_call}
use Rattle.stored_c.proofs.Nodes.{read_whole, behind}
use borrow.Author.Rules.{rules}
use Rattle.stored_c.proofs.keeper_store_inner.Goals as goal

pub returns-then-digest-ne32 : goal.returns-then-digest-ne32
unfolding store_inner_call
returns-then-digest-ne32 c = rw c.from.ensures (refuses 12 _ _ _ refl (search rules))

pub returns : goal.returns
returns c =
    let a = c.args in
    let e = read_whole a.digest.now a.out.now c.read_digest.result (omega arith) c.read_digest.ensures c.write_inner.ensures in
    rw (c.put.ensures.number, c.put.ensures.value)
    (behind a.digest.now a.out.now a.length.now (omega arith) (write_put _ a.length.now c.write_inner.result _ e))
