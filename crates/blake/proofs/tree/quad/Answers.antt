-- Four lanes and three parents are the tree of height 2; for other lengths and numbers there are zeros.
use mathlib.Core.Path.{sym, ◌∙◌}
use native.Mathlib.Omega.{arith}
use Rattle.blake.proofs.tree.Four.{quad_from, treed4_done, treed4_none}
use Rattle.blake.proofs.tree.quad.Goals as goal
use Rattle.blake.proofs.tree.quad.Goals.{then-bytes-ne4096-via-then-bytes-ne4096, then-bytes-ne4096-via-else-bytes-ne4096+then-n-gt-MOST_FIRST}

pub returns-then-bytes-ne4096 : goal.returns-then-bytes-ne4096
returns-then-bytes-ne4096 c =
    let a = c.args in
    treed4_none a.keying.words a.keying.flag a.root a.n a.bytes.now
    (λ few whole. elim c.then-bytes-ne4096.branch [
      | then-bytes-ne4096-via-then-bytes-ne4096 w ↦ w.if-bytes-ne4096.true whole
      | then-bytes-ne4096-via-else-bytes-ne4096+then-n-gt-MOST_FIRST w ↦ omega arith
    ])

pub returns : goal.returns
returns c =
    let a = c.args in
    let whole = c.if-bytes-ne4096.false in
    quad_from a.keying.words a.keying.flag a.n a.bytes.now a.root whole (omega arith)
    c.chunk4-v.ensures
    c.lane.ensures
    c.lane-2.ensures
    c.lane-3.ensures
    c.lane-4.ensures
    c.parent-a.ensures
    c.parent-b.ensures
    c.parent.ensures
    ∙ sym (treed4_done a.keying.words a.keying.flag a.root a.n a.bytes.now (omega arith) whole)
