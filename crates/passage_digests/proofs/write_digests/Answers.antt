-- The digests are written from the height of n leaves down, where there are any and where they fit.
use native.Mathlib.Omega.{arith}
use Rattle.passage.proofs.Digests.{count_few}
use Rattle.passage_digests.proofs.Whole.{whole_none, whole_cut, whole_room, whole_all}
use Rattle.passage_digests.proofs.write_digests.Goals as goal
use Rattle.passage_digests.proofs.write_digests.Goals.{then-n-eq0-via-then-n-eq0, then-n-eq0-via-else-n-eq0+then-n-gt-MOST_LEAVES, then-n-eq0-via-else-n-eq0+else-n-gt-MOST_LEAVES+then-is-gt-MOST_RECORDS, then-d-at-via-then-d-at, then-d-at-via-else-d-at+then-d-at-2}

pub returns-then-n-eq0 : goal.returns-then-n-eq0
returns-then-n-eq0 c =
    let a = c.args in
    whole_none a.mode.now a.nodes.now a.d.now a.at a.n a.is.now
    (λ some few short. elim c.then-n-eq0.branch [
      | then-n-eq0-via-then-n-eq0 w ↦ omega arith
      | then-n-eq0-via-else-n-eq0+then-n-gt-MOST_LEAVES w ↦ omega arith
      | then-n-eq0-via-else-n-eq0+else-n-gt-MOST_LEAVES+then-is-gt-MOST_RECORDS w ↦ omega arith
    ])

pub overflow_mul-length : goal.overflow_mul-length
overflow_mul-length c =
    let a = c.args in
    omega (arith, c.digest_count.ensures, count_few a.n a.is.now)

pub returns-then-d-at : goal.returns-then-d-at
returns-then-d-at c =
    let a = c.args in
    let k = c.digest_count.ensures in
    whole_cut a.mode.now a.nodes.now a.d.now a.at a.n a.is.now
    (elim c.then-d-at.branch [ then-d-at-via-then-d-at w ↦ omega arith | then-d-at-via-else-d-at+then-d-at-2 w ↦ omega (arith, k) ])

pub put_digests-requires : goal.put_digests-requires
put_digests-requires c =
    let a = c.args in
    whole_room a.mode.now a.nodes.now a.d.now a.at a.n a.is.now (omega arith) (omega arith) (omega arith) c.height.result c.height.ensures
    (omega (arith, c.digest_count.ensures))

pub returns : goal.returns
returns c =
    let a = c.args in
    whole_all a.mode.now a.nodes.now a.d.now a.at a.n a.is.now (omega arith) (omega arith) (omega arith) c.height.result c.height.ensures
    (omega (arith, c.digest_count.ensures)) c.put_digests.ensures
