-- Beyond the limits nothing is broken, and within them the way is looked at from the height of n leaves down.
use mathlib.Core.Path.{sym, ap, ◌∙◌}
use native.Mathlib.Omega.{arith}
use Prim.Native.Nat.{ℕ, suc}
use Rattle.digest.specs.Digest.{digest_in}
use Rattle.shape.specs.Seen.{broken_in, broken}
use Rattle.nodes.specs.Nodes.{node_in}
use Rattle.letter_walk.proofs.Whole.{whole_room, broken_inside, broken_beyond}
use Rattle.letter_walk.proofs.broken_to.Goals as goal
use Rattle.letter_walk.proofs.broken_to.Goals.{then-n-i-via-then-n-i, then-n-i-via-else-n-i+then-n-gt-MOST_LEAVES}

pub returns-then-n-i : goal.returns-then-n-i
returns-then-n-i c =
    let a = c.args in
    sym (broken_beyond (digest_in a.mode.now) (node_in a.nodes.now) a.n a.i
    (λ p q. elim c.then-n-i.branch [ then-n-i-via-then-n-i w ↦ omega arith | then-n-i-via-else-n-i+then-n-gt-MOST_LEAVES w ↦ omega arith ]))

pub on_way-requires : goal.on_way-requires
on_way-requires c =
    let a = c.args in
    whole_room _ a.n a.i c.height.ensures (omega arith) (omega arith)

pub returns : goal.returns
unfolding broken
returns c =
    let a = c.args in
    c.on_way.ensures
    ∙ ap (λ (k : ℕ). broken_in (digest_in a.mode.now) (node_in a.nodes.now) (suc k) a.n a.i 0) c.height.ensures
    ∙ sym (broken_inside (digest_in a.mode.now) (node_in a.nodes.now) a.n a.i (omega arith) (omega arith))
