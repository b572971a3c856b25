-- `passage_root::work` meets its contract, by recursion on the height: the indexes are cut in two, `Working` has what a fork adds.
use mathlib.Core.Path.{sym}
use native.Mathlib.Omega.{arith}
use lib.Seq.{length-take-le}
use Rattle.digest.specs.Digest.{digest_in}
use Rattle.passage_root.specs.Root.{leaf_digests}
use Rattle.passage_root.proofs.Working.{parts_short, halves, mid_near, room, workable_part, part_few}
use Rattle.passage_root.proofs.Working.{worked_none, worked_leaf, worked_low, worked_fork}
use Rattle.passage_root.proofs.+work.Goals as goal

pub returns-then-is-eq0 : goal.returns-then-is-eq0
returns-then-is-eq0 t c =
    let a = c.args in
    let ls = leaf_digests (digest_in a.mode.now) a.letter.now a.places.now in
    worked_none a.mode.now a.h a.n a.p a.is.now ls a.i a.items.now a.j c.if-is-eq0.true
    c.as_it_stands.ensures

pub returns-then-h-eq0 : goal.returns-then-h-eq0
returns-then-h-eq0 t c =
    let a = c.args in
    let ls = leaf_digests (digest_in a.mode.now) a.letter.now a.places.now in
    worked_leaf a.mode.now a.h a.n a.p a.is.now ls a.i a.items.now a.j c.if-h-eq0.true
    (omega (arith, c.if-is-eq0.false)) c.record_digest.ensures

pub work-requires : goal.work-requires
work-requires t c =
    let a = c.args in
    let z = c.if-h-eq0.false in (
      omega arith,
      workable_part a.h a.p a.is.now a.i a.j z c.power-half.ensures c.requires (omega arith) (omega arith) (omega arith)
          (omega arith),
    )

pub returns-then-n-half : goal.returns-then-n-half
returns-then-n-half t c =
    let a = c.args in
    let t = halves a.h a.p a.is.now a.i a.j c.if-h-eq0.false c.power-half.ensures c.requires in
    let ls = leaf_digests (digest_in a.mode.now) a.letter.now a.places.now in
    worked_low a.mode.now a.h a.n a.p a.is.now ls a.i a.items.now a.j t c.if-n-half.true
    c.work.ensures

pub overflow_add-mid : goal.overflow_add-mid
overflow_add-mid t c =
    let a = c.args in
    record { fits = omega (arith, mid_near a.h a.p a.is.now a.i a.j c.if-h-eq0.false c.power-half.ensures c.requires) }

pub slice_bounds-front-end : goal.slice_bounds-front-end
slice_bounds-front-end t c = sym (length-take-le _ _ (omega arith))

pub work-left-requires : goal.work-left-requires
work-left-requires t c =
    let a = c.args in
    let z = c.if-h-eq0.false in
    let l = parts_short c.below-k.result a.is.now in (
      omega arith,
      workable_part a.h a.p a.is.now a.i a.j z c.power-half.ensures c.requires (omega arith) (omega arith) (omega arith)
          (omega arith),
    )

pub overflow_add-leaf : goal.overflow_add-leaf
overflow_add-leaf t c =
    let a = c.args in
    let z = c.if-h-eq0.false in
    let l = parts_short c.below-k.result a.is.now in
    let f = part_few a.h a.p a.is.now a.i a.j z c.power-half.ensures c.requires (omega arith) c.work-left.ensures in
    record { fits = omega (arith, room a.h a.p a.is.now a.i a.j z c.power-half.ensures c.requires) }

pub overflow_add-item : goal.overflow_add-item
overflow_add-item t c =
    let a = c.args in
    let z = c.if-h-eq0.false in
    let l = parts_short c.below-k.result a.is.now in
    let f = part_few a.h a.p a.is.now a.i a.j z c.power-half.ensures c.requires (omega arith) c.work-left.ensures in
    record { fits = omega (arith, room a.h a.p a.is.now a.i a.j z c.power-half.ensures c.requires) }

pub work-right-requires : goal.work-right-requires
work-right-requires t c =
    let a = c.args in
    let z = c.if-h-eq0.false in
    let l = parts_short c.below-k.result a.is.now in
    let f = part_few a.h a.p a.is.now a.i a.j z c.power-half.ensures c.requires (omega arith) c.work-left.ensures in (
      omega arith,
      workable_part a.h a.p a.is.now a.i a.j z c.power-half.ensures c.requires (omega arith) (omega arith) (omega arith)
          (omega arith),
    )

pub parent-requires : goal.parent-requires
parent-requires t c =
    let a = c.args in
    let z = c.if-h-eq0.false in
    let l = parts_short c.below-k.result a.is.now in
    let f = part_few a.h a.p a.is.now a.i a.j z c.power-half.ensures c.requires (omega arith) c.work-left.ensures in
    let g = part_few a.h a.p a.is.now a.i a.j z c.power-half.ensures c.requires (omega arith) c.work-right.ensures in
    (omega arith, omega arith)

pub returns : goal.returns
returns t c =
    let a = c.args in
    let k = c.below-k in
    let t = halves a.h a.p a.is.now a.i a.j c.if-h-eq0.false c.power-half.ensures c.requires in
    let ls = leaf_digests (digest_in a.mode.now) a.letter.now a.places.now in
    worked_fork a.mode.now a.h a.n a.p a.is.now ls a.i a.items.now a.j k.result t
    c.if-n-half.false (omega (arith, c.if-is-eq0.false)) k.ensures.0 c.work-left.ensures
    c.work-right.ensures c.parent.ensures
