-- `passage_root::root_of` meets its contract: zeros beyond the limits, and within them the root worked out from the height of n leaves down.
use mathlib.Core.Path.{refl}
use native.Mathlib.Omega.{arith}
use Rattle.digest.specs.Digest.{digest_in}
use Rattle.passage_root.proofs.Root.{root_beyond, workable, worked_whole}
use Rattle.passage_root.proofs.root_of.Goals as goal
use Rattle.passage_root.proofs.root_of.Goals.{then-n-eq0-via-then-n-eq0, then-n-eq0-via-else-n-eq0+then-n-gt-MOST_LEAVES, then-n-eq0-via-else-n-eq0+else-n-gt-MOST_LEAVES+then-is-gt-MOST_RECORDS}

pub returns-then-n-eq0 : goal.returns-then-n-eq0
returns-then-n-eq0 c =
    let a = c.args in
    root_beyond (digest_in a.mode.now) a.n a.is.now a.letter.now a.places.now a.items.now
    (λ some few short. elim c.then-n-eq0.branch [
      | then-n-eq0-via-then-n-eq0 w ↦ omega arith
      | then-n-eq0-via-else-n-eq0+then-n-gt-MOST_LEAVES w ↦ omega arith
      | then-n-eq0-via-else-n-eq0+else-n-gt-MOST_LEAVES+then-is-gt-MOST_RECORDS w ↦ omega arith
    ]) refl refl

pub work-top-requires : goal.work-top-requires
work-top-requires c =
    let a = c.args in
    workable a.n a.is.now (omega arith) (omega arith) (omega arith) c.height.result c.height.ensures

pub returns : goal.returns
returns c =
    let a = c.args in
    worked_whole a.n a.is.now (omega arith) (omega arith) (omega arith) c.height.result c.height.ensures a.mode.now a.letter.now a.places.now
    a.items.now c.work-top.ensures refl refl
