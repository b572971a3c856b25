-- `passage::count::count` meets its contract, by recursion on the height: the indexes are cut in two.
use mathlib.Core.Path.{sym, ap, ◌∙◌}
use Prim.Native.Nat.{◌+◌, ◌-◌}
use native.Mathlib.Omega.{arith}
use lib.ListN.{length, length-take, length-drop, take, drop}
use lib.Seq.{length-take-le}
use Rattle.wire.proofs.Lists.{rest_all}
use Rattle.shape.proofs.Powers.{halved}
use Rattle.views.specs.View.{givens}
use Rattle.views.proofs.Bounds.{passage_few}
use Rattle.views.proofs.Heights.{passage_empty, passage_one, passage_below, passage_sides}
use Rattle.passage.proofs.Steps.{countable_low, countable_left, countable_right}
use Rattle.passage.proofs.count.+count.Goals as goal

pub returns-then-is-eq0 : goal.returns-then-is-eq0
returns-then-is-eq0 t c = let a = c.args in sym (ap givens (passage_empty a.h a.n a.p a.is.now (omega arith)))

pub returns-then-h-eq0 : goal.returns-then-h-eq0
returns-then-h-eq0 t c = let a = c.args in sym (ap givens (passage_one a.h a.n a.p a.is.now (omega arith) (omega arith)))

pub count-requires : goal.count-requires
count-requires t c =
    let a = c.args in
    let p = c.requires in
    let t = halved a.h c.power-half.result (omega arith) (omega arith) c.power-half.ensures in
    (omega arith, countable_low a.h a.p a.is.now t p)

pub returns-then-n-half : goal.returns-then-n-half
returns-then-n-half t c =
    let a = c.args in
    let t = halved a.h c.power-half.result (omega arith) (omega arith) c.power-half.ensures in
    c.count.ensures ∙ sym (ap givens (passage_below a.h c.power-half.result t a.n a.p a.is.now (omega arith)))

pub overflow_add-mid : goal.overflow_add-mid
overflow_add-mid t c =
    let a = c.args in
    let t = halved a.h c.power-half.result (omega arith) (omega arith) c.power-half.ensures in
    record { fits = omega (arith, t.whole) }

pub slice_bounds-count-end : goal.slice_bounds-count-end
slice_bounds-count-end t c = sym (length-take-le _ _ (omega arith))

pub count-left-requires : goal.count-left-requires
count-left-requires t c =
    let a = c.args in
    let p = c.requires in
    let t = halved a.h c.power-half.result (omega arith) (omega arith) c.power-half.ensures in
    (omega arith, countable_left a.h a.p a.is.now c.below-k.result t p)

pub count-right-requires : goal.count-right-requires
count-right-requires t c =
    let a = c.args in
    let p = c.requires in
    let t = halved a.h c.power-half.result (omega arith) (omega arith) c.power-half.ensures in
    (omega arith, countable_right a.h a.p a.is.now c.below-k.result t p)

pub overflow_add-result : goal.overflow_add-result
overflow_add-result t c =
    let a = c.args in
    let p = c.requires in
    let k = c.below-k.result in
    let half = c.power-half.result in
    record {
      fits =
          omega (
            arith,
            c.count-right.ensures,
            c.count-left.ensures,
            passage_few (a.h - 1) half a.p (take k a.is.now) (omega (arith, p.low)) (rw length-take (omega (arith, p.few))),
            passage_few (a.h - 1) (a.n - half) (a.p + half) (take (length a.is.now - k) (drop k a.is.now)) (omega (arith, p.low))
                (rw (rest_all k a.is.now, length-drop) (omega (arith, p.few))),
          );
    }

pub returns : goal.returns
returns t c =
    let a = c.args in
    let t = halved a.h c.power-half.result (omega arith) (omega arith) c.power-half.ensures in
    let b = c.below-k in
    let e = passage_sides a.h c.power-half.result t a.n a.p a.is.now b.result (omega arith) (omega arith) b.ensures.0 in
    omega (arith, c.count-right.ensures, c.count-left.ensures, ap givens e)
