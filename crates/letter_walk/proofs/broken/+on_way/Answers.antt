-- The nodes on the way by recursion on the height: `Breaking` has what each height adds.
use mathlib.Core.Path.{◌≡◌, sym}
use Prim.Native.Nat.{ℕ, ◌-◌, ◌^◌, ◌%◌}
use native.Mathlib.Omega.{arith}
use Rattle.digest.specs.Digest.{digest_in}
use Rattle.letter_walk.specs.Steps.{Walkable}
use Rattle.letter_walk.proofs.Turning.{Above, low_room, right_room}
use Rattle.letter_walk.proofs.broken.Breaking.{either_none, broke_none, broke_low, broke_top, broke_left, broke_right}
use Rattle.letter_walk.proofs.broken.+on_way.Goals as goal

pub returns-then-h-eq0 : goal.returns-then-h-eq0
returns-then-h-eq0 t c =
    let a = c.args in
    broke_none (digest_in a.mode.now) a.nodes.now a.n a.i a.s a.h c.if-h-eq0.true c.requires

-- above height 0
above : {h n i s half : ℕ} → (h ≡ 0 → ⊥) → half ≡ 2 ^ (h - 1) % 2 ^ 64 → Walkable h n i s 0 → Above h n i s 0 half
above some power fits = record { some = some; power = power; fits = fits }

pub on_way-requires : goal.on_way-requires
on_way-requires t c = let f = above c.if-h-eq0.false c.power-half.ensures c.requires in (omega (arith, f.some), low_room f c.if-n-half.true)

pub returns-then-n-half : goal.returns-then-n-half
returns-then-n-half t c =
    let f = above c.if-h-eq0.false c.power-half.ensures c.requires in
    let a = c.args in
    broke_low (digest_in a.mode.now) a.nodes.now a.n a.i a.s _ 0 f c.if-n-half.true c.on_way.ensures

pub returns-then-top_broken : goal.returns-then-top_broken
returns-then-top_broken t c =
    let f = above c.if-h-eq0.false c.power-half.ensures c.requires in
    let a = c.args in
    broke_top (digest_in a.mode.now) a.nodes.now a.n a.i a.s f f.fits c.if-n-half.false c.if-top_broken.ensures

pub returns-then-i-half : goal.returns-then-i-half
returns-then-i-half t c =
    let f = above c.if-h-eq0.false c.power-half.ensures c.requires in
    let a = c.args in
    broke_left (digest_in a.mode.now) a.nodes.now a.n a.i a.s _ _ f f.fits c.if-n-half.false c.if-i-half.true
    (either_none _ _ (sym c.if-top_broken.ensures)) c.on_way-then-i-half.ensures

pub on_way-requires-2 : goal.on_way-requires-2
on_way-requires-2 t c =
    let f = above c.if-h-eq0.false c.power-half.ensures c.requires in
    (omega (arith, f.some), right_room f 0 (omega arith) c.if-n-half.false c.if-i-half.false)

pub returns : goal.returns
returns t c =
    let f = above c.if-h-eq0.false c.power-half.ensures c.requires in
    let a = c.args in
    broke_right (digest_in a.mode.now) a.nodes.now a.n a.i a.s _ _ f f.fits c.if-n-half.false c.if-i-half.false
    (either_none _ _ (sym c.if-top_broken.ensures)) c.on_way-2.ensures
