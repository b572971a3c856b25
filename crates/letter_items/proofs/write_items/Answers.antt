-- The items are written from the height of n leaves down, where there are any and where they fit.
use native.Mathlib.Omega.{arith}
use Rattle.letter_items.proofs.Written.{written_none, written_cut, written_room, written_all}
use Rattle.letter_items.proofs.write_items.Goals as goal
use Rattle.letter_items.proofs.write_items.Goals.{then-n-i-via-then-n-i, then-n-i-via-else-n-i+then-n-gt-MOST_LEAVES}
use Rattle.letter_items.proofs.write_items.Goals.{then-d-at-via-then-d-at, then-d-at-via-else-d-at+then-d-at-2}

pub returns-then-n-i : goal.returns-then-n-i
returns-then-n-i c =
    written_none _ _ _ _ _ _
    (λ p q. elim c.then-n-i.branch [
      | then-n-i-via-then-n-i w ↦ omega arith
      | then-n-i-via-else-n-i+then-n-gt-MOST_LEAVES w ↦ omega arith
    ])

pub returns-then-d-at : goal.returns-then-d-at
returns-then-d-at c =
    written_cut _ _ _ _ c.args.n c.args.i (omega arith) (omega arith)
    (elim c.then-d-at.branch [
      | then-d-at-via-then-d-at w ↦ omega arith
      | then-d-at-via-else-d-at+then-d-at-2 w ↦ omega arith
    ])

pub put_items-requires : goal.put_items-requires
put_items-requires c =
    written_room c.args.mode.now c.args.nodes.now c.args.d.now _ c.args.n c.args.i (omega arith) (omega arith) _ c.height.ensures (omega arith)

pub returns : goal.returns
returns c = written_all _ _ _ _ c.args.n c.args.i (omega arith) (omega arith) _ c.height.ensures (omega arith) c.put_items.ensures
