-- The items are written by recursion on the height: `Putting` has the room that each call has, and what it leaves.
use Prim.Native.Nat.{ℕ, ◌-◌, ◌%◌, ◌^◌}
use mathlib.Core.Path.{◌≡◌, refl}
use native.Mathlib.Omega.{arith}
use Rattle.letter_items.proofs.Putting.{Room, Above, put_none, half_bounds, low_room, low_put, left_room, left_put}
use Rattle.letter_items.proofs.Putting.{within_room, within_put, past_next, past_room, past_put}
use Rattle.letter_items.proofs.+put_items.Goals as goal

-- above height 0
above : {h n i s at room half : ℕ} → (h ≡ 0 → ⊥) → half ≡ 2 ^ (h - 1) % 2 ^ 64 → Room h n i s at room → Above h n i s at room half
above some power fits = record { some = some; power = power; fits = fits }

-- one leaf
pub returns-then-h-eq0 : goal.returns-then-h-eq0
returns-then-h-eq0 t c = put_none _ _ _ _ _ _ _ _ c.if-h-eq0.true c.requires

-- all leaves at the height below
pub put_items-requires : goal.put_items-requires
put_items-requires t c = (omega arith, low_room (above c.if-h-eq0.false c.power-half.ensures c.requires) c.if-n-half.true)

pub returns-then-n-half : goal.returns-then-n-half
returns-then-n-half t c = low_put (above c.if-h-eq0.false c.power-half.ensures c.requires) c.if-n-half.true _ _ _ c.put_items.ensures

-- the position behind the left side, and the leaves to the right
pub overflow_mul-mid : goal.overflow_mul-mid
overflow_mul-mid t c = let f = half_bounds (above c.if-h-eq0.false c.power-half.ensures c.requires) in omega arith

pub overflow_sub-mid : goal.overflow_sub-mid
overflow_sub-mid t c = let f = half_bounds (above c.if-h-eq0.false c.power-half.ensures c.requires) in omega arith

pub overflow_add-mid : goal.overflow_add-mid
overflow_add-mid t c = let f = half_bounds (above c.if-h-eq0.false c.power-half.ensures c.requires) in omega arith

-- to the left
pub put_items-next-requires : goal.put_items-next-requires
put_items-next-requires t c =
    (omega arith, left_room (above c.if-h-eq0.false c.power-half.ensures c.requires) c.if-n-half.false c.if-i-half.true)

pub overflow_add-result : goal.overflow_add-result
overflow_add-result t c =
    let f = above c.if-h-eq0.false c.power-half.ensures c.requires in
    let w = left_put f c.if-n-half.false c.if-i-half.true c.args.mode.now c.args.nodes.now c.args.d.now refl c.put_items-next.ensures
    c.fold_from.ensures c.write_digest.ensures in
    omega (arith, w.0, f.fits.4)

pub returns-then-i-half : goal.returns-then-i-half
returns-then-i-half t c =
    left_put (above c.if-h-eq0.false c.power-half.ensures c.requires) c.if-n-half.false c.if-i-half.true _ _ _ refl
    c.put_items-next.ensures c.fold_from.ensures c.write_digest.ensures

-- to the right
pub overflow_sub-mid-2 : goal.overflow_sub-mid-2
overflow_sub-mid-2 t c = let f = half_bounds (above c.if-h-eq0.false c.power-half.ensures c.requires) in omega arith

-- within a peak
pub put_items-next-requires-then-rest-half : goal.put_items-next-requires-then-rest-half
put_items-next-requires-then-rest-half t c =
    let f = above c.if-h-eq0.false c.power-half.ensures c.requires in
    (omega arith, within_room f c.if-n-half.false c.if-i-half.false c.if-rest-half.true)

pub overflow_add-result-then-rest-half : goal.overflow_add-result-then-rest-half
overflow_add-result-then-rest-half t c =
    let f = above c.if-h-eq0.false c.power-half.ensures c.requires in
    let w = within_put f c.if-n-half.false c.if-i-half.false c.if-rest-half.true c.args.mode.now c.args.nodes.now c.args.d.now refl
    c.put_items-next-then-rest-half.ensures c.node_at.ensures c.write_digest-then-rest-half.ensures in
    omega (arith, w.0, f.fits.4)

pub returns-then-rest-half : goal.returns-then-rest-half
returns-then-rest-half t c =
    within_put (above c.if-h-eq0.false c.power-half.ensures c.requires) c.if-n-half.false c.if-i-half.false c.if-rest-half.true _ _ _ refl
    c.put_items-next-then-rest-half.ensures c.node_at.ensures c.write_digest-then-rest-half.ensures

-- past a peak
pub overflow_add-at : goal.overflow_add-at
overflow_add-at t c =
    let f = above c.if-h-eq0.false c.power-half.ensures c.requires in
    omega (arith, past_next f c.if-n-half.false c.if-i-half.false c.if-rest-half.false)

pub put_items-requires-2 : goal.put_items-requires-2
put_items-requires-2 t c =
    let f = above c.if-h-eq0.false c.power-half.ensures c.requires in
    (omega arith, past_room f c.if-n-half.false c.if-i-half.false c.if-rest-half.false _ _ refl c.node_at.ensures c.write_digest-2.ensures)

pub returns : goal.returns
returns t c =
    past_put (above c.if-h-eq0.false c.power-half.ensures c.requires) c.if-n-half.false c.if-i-half.false c.if-rest-half.false _ _ _ refl
    c.node_at.ensures c.write_digest-2.ensures c.put_items-2.ensures
