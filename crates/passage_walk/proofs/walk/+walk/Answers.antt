-- The walk by recursion on the height: the indexes are cut in two; `Walking` has what each call may ask and what a fork adds.
use mathlib.Core.Path.{◌≡◌, sym, ◌∙◌}
use mathlib.Core.Logic.{◌≢◌}
use mathlib.Core.Bool.{Bool, false}
use Prim.Native.Nat.{ℕ, ◌<◌}
use borrow.Author.Tests.{eqb-true, eqb-false}
use lib.Dec.{eqb}
use native.Mathlib.Omega.{arith}
use lib.Seq.{length-take-le}
use Rattle.digest.specs.Digest.{digest_in}
use Rattle.shape.proofs.Powers.{Halved, halved}
use Rattle.passage_walk.proofs.Walking.{walkable_low, walkable_left, passable, walkable_right, joinable}
use Rattle.passage_walk.proofs.Walking.{walked_none, walked_leaf, walked_low, walked_fork}
use Rattle.passage_walk.proofs.walk.+walk.Goals as goal

-- there is an index
some_index : {n : ℕ} {empty : Bool} → empty ≡ eqb n 0 → empty ≡ false → 0 < n
some_index {n} e f = let h : n ≢ 0 = eqb-false n 0 (sym e ∙ f) in omega arith

pub returns-then-is_empty : goal.returns-then-is_empty
returns-then-is_empty t c =
    let a = c.args in
    walked_none (digest_in a.mode.now) a.nodes.now a.leaves.now a.items.now a.h a.n a.is.now a.at _
    c.requires (eqb-true _ 0 (sym c.is_empty.ensures ∙ c.if-is_empty.true)) c.given.ensures

pub returns-then-h-eq0 : goal.returns-then-h-eq0
returns-then-h-eq0 t c =
    let a = c.args in
    walked_leaf (digest_in a.mode.now) a.nodes.now a.leaves.now a.items.now a.h a.n a.is.now a.at _
    c.requires (omega arith) (some_index c.is_empty.ensures c.if-is_empty.false) c.asked.ensures

pub walk-requires : goal.walk-requires
walk-requires t c =
    let a = c.args in
    let f : Halved a.h c.power-half.result =
    halved a.h c.power-half.result (omega (arith, c.if-h-eq0.false)) (omega (arith, c.requires.countable.low)) c.power-half.ensures in
    (omega (arith, c.if-h-eq0.false), walkable_low a.h a.n a.is.now a.at f c.requires (omega arith))

pub returns-then-n-half : goal.returns-then-n-half
returns-then-n-half t c =
    let a = c.args in
    let f : Halved a.h c.power-half.result =
    halved a.h c.power-half.result (omega (arith, c.if-h-eq0.false)) (omega (arith, c.requires.countable.low)) c.power-half.ensures in
    walked_low (digest_in a.mode.now) a.nodes.now a.leaves.now a.items.now a.h a.n a.is.now a.at _
    f c.if-n-half.true c.walk.ensures

pub overflow_add-at : goal.overflow_add-at
overflow_add-at t c =
    let f : Halved c.args.h c.power-half.result =
    halved c.args.h c.power-half.result (omega (arith, c.if-h-eq0.false)) (omega (arith, c.requires.countable.low)) c.power-half.ensures in
    record { fits = omega (arith, f.whole, c.requires.countable.near) }

pub slice_bounds-fore-end : goal.slice_bounds-fore-end
slice_bounds-fore-end t c = sym (length-take-le _ _ (omega (arith, c.below-k.ensures.1)))

pub offset_bounds-is-k : goal.offset_bounds-is-k
offset_bounds-is-k t c =
    record { fits = omega (arith, c.below-k.ensures.1, c.requires.countable.few) }

pub slice_bounds-back-count : goal.slice_bounds-back-count
slice_bounds-back-count t c = omega (arith, c.below-k.ensures.1)

pub slice_bounds-back-start : goal.slice_bounds-back-start
slice_bounds-back-start t c = omega (arith, c.below-k.ensures.1)

pub slice_bounds-back-end : goal.slice_bounds-back-end
slice_bounds-back-end t c = omega (arith, c.below-k.ensures.1)

pub walk-left-requires : goal.walk-left-requires
walk-left-requires t c =
    let a = c.args in
    let f : Halved a.h c.power-half.result =
    halved a.h c.power-half.result (omega (arith, c.if-h-eq0.false)) (omega (arith, c.requires.countable.low)) c.power-half.ensures in
    (omega (arith, c.if-h-eq0.false), walkable_left a.h a.n a.is.now a.at f c.requires c.below-k.result)

pub beyond-next-requires : goal.beyond-next-requires
beyond-next-requires t c =
    let a = c.args in
    let f : Halved a.h c.power-half.result =
    halved a.h c.power-half.result (omega (arith, c.if-h-eq0.false)) (omega (arith, c.requires.countable.low)) c.power-half.ensures in
    passable a.h a.n a.is.now a.at f c.requires (digest_in a.mode.now) a.nodes.now a.leaves.now a.items.now
    c.below-k.result (omega (arith, c.if-n-half.false)) c.walk-left.result c.walk-left.ensures

pub walk-right-requires : goal.walk-right-requires
walk-right-requires t c =
    let a = c.args in
    let f : Halved a.h c.power-half.result =
    halved a.h c.power-half.result (omega (arith, c.if-h-eq0.false)) (omega (arith, c.requires.countable.low)) c.power-half.ensures in (
      omega (arith, c.if-h-eq0.false, c.decreases),
      walkable_right a.h a.n a.is.now a.at f c.requires (digest_in a.mode.now) a.nodes.now a.leaves.now
          a.items.now c.below-k.result (omega (arith, c.if-n-half.false)) c.walk-left.result c.walk-left.ensures
          c.beyond-next.ensures,
    )

pub join-requires : goal.join-requires
join-requires t c =
    let a = c.args in
    let f : Halved a.h c.power-half.result =
    halved a.h c.power-half.result (omega (arith, c.if-h-eq0.false)) (omega (arith, c.requires.countable.low)) c.power-half.ensures in
    joinable a.h a.n a.is.now a.at f c.requires (digest_in a.mode.now) a.nodes.now a.leaves.now a.items.now
    c.below-k.result (omega (arith, c.if-n-half.false)) c.walk-left.result c.walk-left.ensures c.walk-right.result
    c.walk-right.ensures

pub returns : goal.returns
returns t c =
    let a = c.args in
    let f : Halved a.h c.power-half.result =
    halved a.h c.power-half.result (omega (arith, c.if-h-eq0.false)) (omega (arith, c.requires.countable.low)) c.power-half.ensures in
    walked_fork (digest_in a.mode.now) a.nodes.now a.leaves.now a.items.now a.h a.n a.is.now a.at c.power-half.result
    c.below-k.result f (omega (arith, c.if-n-half.false)) c.requires.most (some_index c.is_empty.ensures c.if-is_empty.false)
    c.below-k.ensures.0 c.walk-left.result c.walk-right.result _ c.beyond-next.ensures c.walk-left.ensures
    c.walk-right.ensures c.join.ensures
