-- Four whole chunks are handed on; for other lengths and numbers there are zeros.
use mathlib.Core.Path.{◌∙◌}
use native.Mathlib.Omega.{arith}
use Rattle.chunks.proofs.Answers.{chunked4_done, chunked4_none}
use Rattle.chunks.proofs.lane.chunk4.Goals as goal
use Rattle.chunks.proofs.lane.chunk4.Goals.{then-bytes-ne4096-via-then-bytes-ne4096, then-bytes-ne4096-via-else-bytes-ne4096+then-n-gt-MOST_FIRST}

pub returns-then-bytes-ne4096 : goal.returns-then-bytes-ne4096
returns-then-bytes-ne4096 c =
    let a = c.args in
    chunked4_none a.keying.words a.keying.flag a.n a.bytes.now
    (λ few whole. elim c.then-bytes-ne4096.branch [
      | then-bytes-ne4096-via-then-bytes-ne4096 w ↦ w.if-bytes-ne4096.true whole
      | then-bytes-ne4096-via-else-bytes-ne4096+then-n-gt-MOST_FIRST w ↦ omega arith
    ])

pub whole4-requires : goal.whole4-requires
whole4-requires c = (c.if-bytes-ne4096.false, omega arith)

pub returns : goal.returns
returns c =
    let a = c.args in
    c.whole4.ensures ∙ chunked4_done a.keying.words a.keying.flag a.n a.bytes.now (omega arith) c.if-bytes-ne4096.false
