-- One record after the other: `Owned` has the loop's beginning, a step and its end.
use mathlib.Core.Path.{refl, ap}
use Rattle.wire.specs.Slices.{bit}
use Prim.Native.Nat.{◌+◌, ◌-◌, ◌≤◌}
use native.Mathlib.Omega.{arith}
use borrow.Author.Rules.{rules}
use lib.ListN.{length, get_or, take, drop}
use Rattle.digest.specs.Digest.{digest_in}
use Rattle.nodes.specs.Nodes.{node_in}
use Rattle.letter.proofs.Foreign.{foreign_by}
use Rattle.passage_foresight.proofs.Cutting.{cutting_room}
use Rattle.passage_foresight.proofs.Owned.{owned_begin, owned_other, owned_next, owned_end}
use Rattle.passage_foresight.proofs.foreign_refusal.Goals as goal

pub loop-i-init : goal.loop-i-init
loop-i-init c =
    let a = c.args in
    owned_begin (digest_in a.mode.now) (node_in a.nodes.now) a.indexes.now a.records.now a.lengths.now c.requires

pub bounds-lengths-i : goal.bounds-lengths-i
bounds-lengths-i c = omega (arith, c.loop-i.invariant.place.as_many)

pub overflow_cast-end : goal.overflow_cast-end
overflow_cast-end c = omega (arith, c.type_inv.lengths c.loop-i.i)

pub overflow_add-end : goal.overflow_add-end
overflow_add-end c =
    let a = c.args in
    let l = c.loop-i in
    let r : l.at + get_or a.lengths.now l.i 0 ≤ length a.records.now =
    omega (arith, cutting_room a.indexes.now a.records.now a.lengths.now l.invariant.place (omega arith)) in
    omega arith

pub slice_bounds-digest_of-count : goal.slice_bounds-digest_of-count
slice_bounds-digest_of-count c =
    let a = c.args in
    let l = c.loop-i in
    let r : l.at + get_or a.lengths.now l.i 0 ≤ length a.records.now =
    omega (arith, cutting_room a.indexes.now a.records.now a.lengths.now l.invariant.place (omega arith)) in
    omega arith

pub slice_bounds-digest_of-start : goal.slice_bounds-digest_of-start
slice_bounds-digest_of-start c =
    let a = c.args in
    let l = c.loop-i in
    let r : l.at + get_or a.lengths.now l.i 0 ≤ length a.records.now =
    omega (arith, cutting_room a.indexes.now a.records.now a.lengths.now l.invariant.place (omega arith)) in
    search rules

pub slice_bounds-digest_of-end : goal.slice_bounds-digest_of-end
slice_bounds-digest_of-end c =
    let a = c.args in
    let l = c.loop-i in
    let r : l.at + get_or a.lengths.now l.i 0 ≤ length a.records.now =
    omega (arith, cutting_room a.indexes.now a.records.now a.lengths.now l.invariant.place (omega arith)) in
    search rules

pub returns-then-foreign : goal.returns-then-foreign
returns-then-foreign c =
    let a = c.args in
    let l = c.loop-i in
    let compared = foreign_by (digest_in a.mode.now) (node_in a.nodes.now) (get_or a.indexes.now l.i 0)
    (take (l.at + get_or a.lengths.now l.i 0 - l.at) (drop l.at a.records.now)) c.digest_of-own.ensures c.foreign.ensures in
    owned_other (digest_in a.mode.now) (node_in a.nodes.now) a.indexes.now a.records.now a.lengths.now l.invariant
    (omega arith) refl compared (λ z. omega (arith, ap bit c.if-foreign.true))

pub loop-i-preserved : goal.loop-i-preserved
loop-i-preserved c =
    let a = c.args in
    let l = c.loop-i in
    let compared = foreign_by (digest_in a.mode.now) (node_in a.nodes.now) (get_or a.indexes.now l.i 0)
    (take (l.at + get_or a.lengths.now l.i 0 - l.at) (drop l.at a.records.now)) c.digest_of-own.ensures c.foreign.ensures in
    owned_next (digest_in a.mode.now) (node_in a.nodes.now) a.indexes.now a.records.now a.lengths.now l.invariant
    (omega arith) refl compared (ap bit c.if-foreign.false)

pub returns : goal.returns
returns c =
    let a = c.args in
    owned_end (digest_in a.mode.now) (node_in a.nodes.now) a.indexes.now a.records.now a.lengths.now c.loop-i.invariant
    (omega arith)
