-- One record after the other: `Entries` has the loop's beginning, a step and its end.
use mathlib.Core.Path.{refl}
use native.Mathlib.Omega.{arith}
use borrow.Author.Rules.{rules}
use Rattle.passage_writer.proofs.Entries.{enters_begin, enters_room, enters_next, enters_end}
use Rattle.passage_writer.proofs.write_entries.Goals as goal

pub loop-i-init : goal.loop-i-init
loop-i-init c =
    let a = c.args in
    enters_begin a.indexes.now a.records.now a.lengths.now a.out.now c.requires

pub bounds-lengths-i : goal.bounds-lengths-i
bounds-lengths-i c = omega (arith, c.loop-i.invariant.place.as_many)

pub overflow_cast-end : goal.overflow_cast-end
overflow_cast-end c = omega (arith, c.type_inv.lengths c.loop-i.i)

pub overflow_add-end : goal.overflow_add-end
overflow_add-end c =
    let a = c.args in
    let r = enters_room a.indexes.now a.records.now a.lengths.now a.out.now c.loop-i.invariant (omega arith) in
    omega arith

pub overflow_add-place : goal.overflow_add-place
overflow_add-place c =
    let a = c.args in
    let r = enters_room a.indexes.now a.records.now a.lengths.now a.out.now c.loop-i.invariant (omega arith) in
    omega arith

pub overflow_add-place-in-loop-i : goal.overflow_add-place-in-loop-i
overflow_add-place-in-loop-i c =
    let a = c.args in
    let r = enters_room a.indexes.now a.records.now a.lengths.now a.out.now c.loop-i.invariant (omega arith) in
    omega arith

pub slice_bounds-write_run-count : goal.slice_bounds-write_run-count
slice_bounds-write_run-count c =
    let a = c.args in
    let r = enters_room a.indexes.now a.records.now a.lengths.now a.out.now c.loop-i.invariant (omega arith) in
    omega arith

pub slice_bounds-write_run-start : goal.slice_bounds-write_run-start
slice_bounds-write_run-start c =
    let a = c.args in
    let r = enters_room a.indexes.now a.records.now a.lengths.now a.out.now c.loop-i.invariant (omega arith) in
    search rules

pub slice_bounds-write_run-end : goal.slice_bounds-write_run-end
slice_bounds-write_run-end c =
    let a = c.args in
    let r = enters_room a.indexes.now a.records.now a.lengths.now a.out.now c.loop-i.invariant (omega arith) in
    search rules

pub overflow_add-place-in-loop-i-2 : goal.overflow_add-place-in-loop-i-2
overflow_add-place-in-loop-i-2 c =
    let a = c.args in
    let r = enters_room a.indexes.now a.records.now a.lengths.now a.out.now c.loop-i.invariant (omega arith) in
    omega arith

pub overflow_cast-place : goal.overflow_cast-place
overflow_cast-place c =
    let a = c.args in
    let r = enters_room a.indexes.now a.records.now a.lengths.now a.out.now c.loop-i.invariant (omega arith) in
    omega arith

pub overflow_add-place-in-loop-i-3 : goal.overflow_add-place-in-loop-i-3
overflow_add-place-in-loop-i-3 c =
    let a = c.args in
    let r = enters_room a.indexes.now a.records.now a.lengths.now a.out.now c.loop-i.invariant (omega arith) in
    omega arith

pub loop-i-preserved : goal.loop-i-preserved
loop-i-preserved c =
    let a = c.args in
    enters_next a.indexes.now a.records.now a.lengths.now a.out.now c.loop-i.invariant (omega arith) refl
    c.write8.ensures c.write4.ensures c.write_run.ensures refl

pub shape_of-out : goal.shape_of-out
shape_of-out c = c.loop-i.invariant.long

pub returns : goal.returns
returns c =
    let a = c.args in
    enters_end a.indexes.now a.records.now a.lengths.now a.out.now c.loop-i.invariant (omega arith)
