-- Beyond the limits nothing is found, and within them the walk from the height of n leaves is the walk.
use mathlib.Core.Path.{sym, ◌∙◌}
use native.Mathlib.Omega.{arith}
use Rattle.digest.specs.Digest.{digest_in}
use Rattle.nodes.specs.Nodes.{node_in}
use Rattle.passage_walk.proofs.Whole.{whole_room, whole, walk_inside, walk_beyond}
use Rattle.passage_walk.proofs.walk_of.Goals as goal
use Rattle.passage_walk.proofs.walk_of.Goals.{then-n-eq0-via-then-n-eq0, then-n-eq0-via-else-n-eq0+then-n-gt-MOST_LEAVES, then-n-eq0-via-else-n-eq0+else-n-gt-MOST_LEAVES+then-is-gt-MOST_RECORDS}

pub returns-then-n-eq0 : goal.returns-then-n-eq0
returns-then-n-eq0 c =
    let a = c.args in
    c.nothing.ensures
    ∙ sym (walk_beyond a.n a.is.now (digest_in a.mode.now) (node_in a.nodes.now) a.leaves.now a.items.now
    (λ some few short. elim c.then-n-eq0.branch [
      | then-n-eq0-via-then-n-eq0 w ↦ omega arith
      | then-n-eq0-via-else-n-eq0+then-n-gt-MOST_LEAVES w ↦ omega arith
      | then-n-eq0-via-else-n-eq0+else-n-gt-MOST_LEAVES+then-is-gt-MOST_RECORDS w ↦ omega arith
    ]))

pub walk-w-requires : goal.walk-w-requires
walk-w-requires c =
    let a = c.args in
    whole_room a.n a.is.now (omega arith) (omega arith) (omega arith) c.height.result c.height.ensures

pub returns : goal.returns
returns c =
    let a = c.args in
    whole a.n a.is.now (omega arith) (omega arith) (omega arith) c.height.result c.height.ensures
    (digest_in a.mode.now) a.nodes.now a.leaves.now a.items.now c.walk-w.ensures
    ∙ sym (walk_inside a.n a.is.now (digest_in a.mode.now) (node_in a.nodes.now) a.leaves.now a.items.now (omega arith) (omega arith) (omega arith))
