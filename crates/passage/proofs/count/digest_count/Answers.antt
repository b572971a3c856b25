-- `passage::count::digest_count` meets its contract: beyond the limits there are none, within them they are counted from the height of n leaves down.
use mathlib.Core.Path.{sym, ◌∙◌}
use native.Mathlib.Omega.{arith}
use Rattle.passage.proofs.Digests.{count_none, count_from, countable}
use Rattle.passage.proofs.count.digest_count.Goals as goal
use Rattle.passage.proofs.count.digest_count.Goals.{then-n-eq0-via-then-n-eq0, then-n-eq0-via-else-n-eq0+then-n-gt-MOST_LEAVES, then-n-eq0-via-else-n-eq0+else-n-gt-MOST_LEAVES+then-is-gt-MOST_RECORDS}

pub returns-then-n-eq0 : goal.returns-then-n-eq0
returns-then-n-eq0 c =
    let a = c.args in
    sym (count_none a.n a.is.now
    (λ some few short. elim c.then-n-eq0.branch [
      | then-n-eq0-via-then-n-eq0 w ↦ omega arith
      | then-n-eq0-via-else-n-eq0+then-n-gt-MOST_LEAVES w ↦ omega arith
      | then-n-eq0-via-else-n-eq0+else-n-gt-MOST_LEAVES+then-is-gt-MOST_RECORDS w ↦ omega arith
    ]))

pub count-requires : goal.count-requires
count-requires c =
    let a = c.args in
    countable a.n a.is.now (omega arith) (omega arith) (omega arith) c.height.result c.height.ensures

pub returns : goal.returns
returns c =
    let a = c.args in
    c.count.ensures ∙ sym (count_from a.n a.is.now (omega arith) (omega arith) (omega arith) c.height.result c.height.ensures)
