-- Beyond the limits nothing is found, and within them the walk from the height of n leaves is the walk.
use mathlib.Core.Path.{sym, ◌∙◌}
use native.Mathlib.Omega.{arith}
use Rattle.digest.specs.Digest.{digest_in}
use Rattle.nodes.specs.Nodes.{node_in}
use Rattle.letter_walk.proofs.Whole.{whole_room, whole, walk_inside, walk_beyond}
use Rattle.letter_walk.proofs.walk_to.Goals as goal
use Rattle.letter_walk.proofs.walk_to.Goals.{then-n-i-via-then-n-i, then-n-i-via-else-n-i+then-n-gt-MOST_LEAVES}

pub returns-then-n-i : goal.returns-then-n-i
returns-then-n-i c =
    let a = c.args in
    c.nothing.ensures
    ∙ sym (walk_beyond (digest_in a.mode.now) (node_in a.nodes.now) a.n a.i _ _
    (λ p q. elim c.then-n-i.branch [ then-n-i-via-then-n-i w ↦ omega arith | then-n-i-via-else-n-i+then-n-gt-MOST_LEAVES w ↦ omega arith ]))

pub walk-requires : goal.walk-requires
walk-requires c =
    let a = c.args in
    whole_room _ a.n a.i c.height.ensures (omega arith) (omega arith)

pub returns : goal.returns
returns c =
    let a = c.args in
    whole _ _ a.n a.i _ _ c.height.ensures c.walk.ensures
    ∙ sym (walk_inside (digest_in a.mode.now) (node_in a.nodes.now) a.n a.i _ _ (omega arith) (omega arith))
