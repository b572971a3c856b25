-- The digests are written by recursion on the height: `Putting` has the room that each call has, and what it leaves.
use mathlib.Core.Path.{refl, sym}
use native.Mathlib.Omega.{arith}
use lib.ListN.{length}
use lib.Seq.{length-take-le}
use Rattle.views.proofs.Heights.{passage_empty}
use Rattle.passage_digests.proofs.Putting.{put_given, put_asked, Above, half_bounds, low_room, low_put, left_room, right_room, sides_put}
use Rattle.passage_digests.proofs.+put_digests.Goals as goal

pub overflow_add-result : goal.overflow_add-result
overflow_add-result t c =
    let a = c.args in
    let v = passage_empty a.h a.n a.p a.is.now (omega arith) in
    record { fits = omega (arith, rw v at c.requires.fits) }

pub returns-then-is-eq0 : goal.returns-then-is-eq0
returns-then-is-eq0 t c =
    let a = c.args in
    put_given a.mode.now a.nodes.now a.d.now c.requires (omega arith) c.fold_from.ensures c.write_digest.ensures

pub returns-then-h-eq0 : goal.returns-then-h-eq0
returns-then-h-eq0 t c =
    let a = c.args in
    put_asked a.mode.now a.nodes.now a.d.now c.requires c.if-h-eq0.true (omega arith)

pub put_digests-requires : goal.put_digests-requires
put_digests-requires t c =
    let a = c.args in
    let f : Above a.h a.n a.p a.is.now a.s a.at (length a.d.now) c.power-half.result =
    record { some = c.if-h-eq0.false; asked = omega (arith, c.if-is-eq0.false); power = c.power-half.ensures; puts = c.requires } in
    (omega (arith, f.some), low_room f c.if-n-half.true)

pub returns-then-n-half : goal.returns-then-n-half
returns-then-n-half t c =
    let a = c.args in
    let f : Above a.h a.n a.p a.is.now a.s a.at (length a.d.now) c.power-half.result =
    record { some = c.if-h-eq0.false; asked = omega (arith, c.if-is-eq0.false); power = c.power-half.ensures; puts = c.requires } in
    low_put f c.if-n-half.true a.mode.now a.nodes.now a.d.now c.put_digests.ensures

pub overflow_mul-mid : goal.overflow_mul-mid
overflow_mul-mid t c =
    let a = c.args in
    let f : Above a.h a.n a.p a.is.now a.s a.at (length a.d.now) c.power-half.result =
    record { some = c.if-h-eq0.false; asked = omega (arith, c.if-is-eq0.false); power = c.power-half.ensures; puts = c.requires } in
    let b = half_bounds f in
    omega arith

pub overflow_sub-mid : goal.overflow_sub-mid
overflow_sub-mid t c =
    let a = c.args in
    let f : Above a.h a.n a.p a.is.now a.s a.at (length a.d.now) c.power-half.result =
    record { some = c.if-h-eq0.false; asked = omega (arith, c.if-is-eq0.false); power = c.power-half.ensures; puts = c.requires } in
    let b = half_bounds f in
    omega arith

pub overflow_add-mid : goal.overflow_add-mid
overflow_add-mid t c =
    let a = c.args in
    let f : Above a.h a.n a.p a.is.now a.s a.at (length a.d.now) c.power-half.result =
    record { some = c.if-h-eq0.false; asked = omega (arith, c.if-is-eq0.false); power = c.power-half.ensures; puts = c.requires } in
    let b = half_bounds f in
    omega arith

pub overflow_add-next : goal.overflow_add-next
overflow_add-next t c =
    let a = c.args in
    let f : Above a.h a.n a.p a.is.now a.s a.at (length a.d.now) c.power-half.result =
    record { some = c.if-h-eq0.false; asked = omega (arith, c.if-is-eq0.false); power = c.power-half.ensures; puts = c.requires } in
    let b = half_bounds f in
    omega arith

pub slice_bounds-put_digests-end : goal.slice_bounds-put_digests-end
slice_bounds-put_digests-end t c = sym (length-take-le _ _ (omega arith))

pub put_digests-behind-requires : goal.put_digests-behind-requires
put_digests-behind-requires t c =
    let a = c.args in
    let f : Above a.h a.n a.p a.is.now a.s a.at (length a.d.now) c.power-half.result =
    record { some = c.if-h-eq0.false; asked = omega (arith, c.if-is-eq0.false); power = c.power-half.ensures; puts = c.requires } in
    (omega (arith, f.some), left_room f c.if-n-half.false c.below-k.ensures.0)

pub offset_bounds-is-k : goal.offset_bounds-is-k
offset_bounds-is-k t c = omega (arith, c.below-k.ensures.1)

pub slice_bounds-put_digests-count : goal.slice_bounds-put_digests-count
slice_bounds-put_digests-count t c = omega (arith, c.below-k.ensures.1)

pub slice_bounds-put_digests-start : goal.slice_bounds-put_digests-start
slice_bounds-put_digests-start t c = omega (arith, c.below-k.ensures.1)

pub slice_bounds-put_digests-end-2 : goal.slice_bounds-put_digests-end-2
slice_bounds-put_digests-end-2 t c = omega (arith, c.below-k.ensures.1)

pub put_digests-requires-2 : goal.put_digests-requires-2
put_digests-requires-2 t c =
    let a = c.args in
    let f : Above a.h a.n a.p a.is.now a.s a.at (length a.d.now) c.power-half.result =
    record { some = c.if-h-eq0.false; asked = omega (arith, c.if-is-eq0.false); power = c.power-half.ensures; puts = c.requires } in (
      omega (arith, f.some),
      right_room f c.if-n-half.false c.below-k.ensures.0 a.mode.now a.nodes.now a.d.now refl c.put_digests-behind.ensures,
    )

pub returns : goal.returns
returns t c =
    let a = c.args in
    let f : Above a.h a.n a.p a.is.now a.s a.at (length a.d.now) c.power-half.result =
    record { some = c.if-h-eq0.false; asked = omega (arith, c.if-is-eq0.false); power = c.power-half.ensures; puts = c.requires } in
    sides_put f c.if-n-half.false c.below-k.ensures.0 a.mode.now a.nodes.now a.d.now refl
    c.put_digests-behind.ensures c.put_digests-2.ensures
