-- The tree, by recursion on the height: `Sides` has what a height adds, `Rooms` the room that each call has.
use mathlib.Core.Path.{refl, sym, ◌∙◌}
use Prim.Native.Nat.{◌*◌}
use native.Mathlib.Omega.{arith}
use lib.ListN.{length}
use lib.Seq.{length-take-le}
use Rattle.blake.proofs.Sides.{tree_chunk, tree_same}
use Rattle.blake.proofs.tree.Rooms.{room_some, room_short, room_left, room_right, room_quad, fits_short, fits_long}
use Rattle.blake.proofs.tree.Four.{treed4_done}
use Rattle.blake.proofs.tree.+tree.Goals as goal

pub returns-then-bytes-le1024 : goal.returns-then-bytes-le1024
returns-then-bytes-le1024 t c =
    let k = c.args in
    c.chunk.ensures
    ∙ tree_chunk 0 k.keying.words k.keying.flag k.root k.n k.bytes.now refl
    ∙ tree_same k.keying.words k.keying.flag k.root k.n k.bytes.now 0 k.h (omega (arith, c.if-bytes-le1024.true)) c.requires.bytes

pub returns-then-bytes-eq4096 : goal.returns-then-bytes-eq4096
returns-then-bytes-eq4096 t c =
    let k = c.args in
    let whole = c.if-bytes-eq4096.true in
    c.quad.ensures
    ∙ treed4_done k.keying.words k.keying.flag k.root k.n k.bytes.now (room_quad k.h k.n (length k.bytes.now) c.requires whole) whole
    ∙ tree_same k.keying.words k.keying.flag k.root k.n k.bytes.now 2 k.h (omega (arith, c.if-bytes-eq4096.true)) c.requires.bytes

pub overflow_sub-below : goal.overflow_sub-below
overflow_sub-below t c =
    let k = c.args in
    let s = room_some k.h k.n (length k.bytes.now) c.requires c.if-bytes-le1024.false in omega (arith, s)

pub tree-requires : goal.tree-requires
tree-requires t c =
    let k = c.args in
    let p = c.power-chunks in
    let s = room_some k.h k.n (length k.bytes.now) c.requires c.if-bytes-le1024.false in (
      omega (arith, s),
      room_short k.h k.n p.result k.bytes.now s p.ensures.0
          c.requires c.if-bytes-left.true,
    )

pub returns-then-bytes-left : goal.returns-then-bytes-left
returns-then-bytes-left t c =
    let k = c.args in
    let p = c.power-chunks in
    c.tree.ensures
    ∙ fits_short k.h k.n p.result k.bytes.now (room_some k.h k.n (length k.bytes.now) c.requires c.if-bytes-le1024.false) p.ensures.0
    c.requires k.keying.words k.keying.flag k.root c.if-bytes-left.true

pub slice_bounds-tree-end : goal.slice_bounds-tree-end
slice_bounds-tree-end t c =
    let k = c.args in
    let p = c.power-chunks in
    sym (length-take-le (1024 * p.result) k.bytes.now (omega arith))

pub tree-l-requires : goal.tree-l-requires
tree-l-requires t c =
    let k = c.args in
    let p = c.power-chunks in
    let s = room_some k.h k.n (length k.bytes.now) c.requires c.if-bytes-le1024.false in (
      omega (arith, s),
      room_left k.h k.n p.result k.bytes.now s
          p.ensures.0 c.requires c.if-bytes-left.false,
    )

pub tree-r-requires : goal.tree-r-requires
tree-r-requires t c =
    let k = c.args in
    let p = c.power-chunks in
    let s = room_some k.h k.n (length k.bytes.now) c.requires c.if-bytes-le1024.false in (
      omega (arith, s),
      room_right k.h k.n p.result k.bytes.now s p.ensures.0
          c.requires c.if-bytes-left.false,
    )

pub returns : goal.returns
returns t c =
    let k = c.args in
    let p = c.power-chunks in
    let s = room_some k.h k.n (length k.bytes.now) c.requires c.if-bytes-le1024.false in
    c.parent.ensures
    ∙ fits_long k.h k.n p.result k.bytes.now s p.ensures.0 c.requires k.keying.words k.keying.flag k.root _ _
    c.if-bytes-left.false c.tree-l.ensures c.tree-r.ensures
