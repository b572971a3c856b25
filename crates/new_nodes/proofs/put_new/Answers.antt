-- `new_nodes::put_new` meets its contract: where there is no place no byte changes, and where there is one the new nodes stand behind the old ones.
use mathlib.Core.Path.{◌≡◌, refl, ap, ap₂, ◌∙◌}
use Prim.Native.Nat.{◌+◌, ◌*◌, ◌≤◌}
use native.Mathlib.Omega.{arith}
use lib.ListN.{length}
use Rattle.std.specs.Prelude.{Some}
use Rattle.order.proofs.Laws.{refuses, passes}
use Rattle.shape.proofs.Powers.{power_small}
use Rattle.new_nodes.specs.Outcome.{put_left, put_order, put_outcome}
use Rattle.new_nodes.proofs.Placing.{leaf_bytes_lem, new_bytes}
use borrow.Author.Rules.{rules}
use Rattle.new_nodes.proofs.put_new.Goals as goal
use Rattle.new_nodes.proofs.put_new.Goals.{then-m-gt32-via-then-m-gt32, then-m-gt32-via-else-m-gt32+then-size-power}
use Rattle.new_nodes.proofs.put_new.Goals.{then-room-size-via-then-room-size, then-room-size-via-else-room-size+then-room-size-2}

pub returns-then-m-gt32 : goal.returns-then-m-gt32
unfolding put_outcome put_order
returns-then-m-gt32 c = elim c.then-m-gt32.branch [
  | then-m-gt32-via-then-m-gt32 w ↦ refuses 1 _ _ _ refl (search rules)
  | then-m-gt32-via-else-m-gt32+then-size-power w ↦
      let p = w.power.ensures ∙ power_small 64 c.args.m (omega arith) in
      refuses 1 _ _ _ refl (search rules)
]

-- in each of these `p`: 2^m, which no number of 64 bits is too small for
pub returns-then-room-size : goal.returns-then-room-size
unfolding put_outcome put_order
returns-then-room-size c =
    let p = c.power.ensures ∙ power_small 64 c.args.m (omega arith) in
    elim c.then-room-size.branch [
      | then-room-size-via-then-room-size w ↦ refuses 1 _ _ _ refl (search rules)
      | then-room-size-via-else-room-size+then-room-size-2 w ↦ refuses 1 _ _ _ refl (search rules)
    ]

-- where there is a place, the buffer reaches behind the new nodes: no parent, the leaf alone
pub returns-then-m-eq0 : goal.returns-then-m-eq0
unfolding put_outcome put_order
returns-then-m-eq0 c =
    let a = c.args in
    let p = c.power.ensures ∙ power_small 64 a.m (omega arith) in
    let fits : 32 * (a.size + (1 + a.m)) ≤ length a.nodes.now = omega arith in
    let w = leaf_bytes_lem a.mode.now a.size a.m a.rec.now a.nodes.now fits c.if-m-eq0.true c.write_digest.ensures c.digest_of-leaf.ensures in
    let n : Some 1 ≡ Some (1 + a.m) = ap Some (omega arith) in
    passes _ _ _ (ap₂ put_left n w) (search rules)

-- and with parents
pub returns : goal.returns
unfolding put_outcome put_order
returns c =
    let a = c.args in
    let p = c.power.ensures ∙ power_small 64 a.m (omega arith) in
    let fits : 32 * (a.size + (1 + a.m)) ≤ length a.nodes.now = omega arith in
    let w = new_bytes a.mode.now a.size a.m a.rec.now a.nodes.now fits c.lefts-saved.ensures c.write_new.ensures refl in
    passes _ _ _ (ap (put_left (Some (1 + a.m))) w) (search rules)
