-- One block, four chunks or one: `Going` has what comes of each.
use mathlib.Core.Path.{sym, subst}
use Prim.Native.Nat.{ℕ, ◌+◌, ◌-◌, ◌/◌}
use native.Mathlib.Omega.{arith}
use borrow.Author.Tests.{leb-false}
use lib.ListN.{length, take, drop}
use lib.Seq.{length-take-le}
use Rattle.parts_rule.specs.Steps.{Went}
use Rattle.parts_rule.proofs.Counts.{ready_full, ready_one, ready_four}
use Rattle.subtrees.proofs.Laws.{push_rule}
use Rattle.parts_rule.proofs.Going.{went_block, went_chunk, went_four}
use Rattle.parts.proofs.take.step.Goals as goal

pub slice_bounds-go_on-end : goal.slice_bounds-go_on-end
slice_bounds-go_on-end c = sym (length-take-le 64 c.args.part.now (omega arith))

pub go_on-next-requires : goal.go_on-next-requires
go_on-next-requires c =
    let a = c.args in (
      c.requires.0,
      length-take-le 64 a.part.now (omega arith),
      ready_full a.run.stacked a.run.total (length a.part.now) c.requires.1 c.requires.2,
    )

pub returns-then-run-ne0 : goal.returns-then-run-ne0
returns-then-run-ne0 c =
    let a = c.args in
    let r = a.run in
    let g = c.go_on-next in
    let w =
    went_block a.keying.words a.keying.flag r.chain a.stack.now r.stacked r.total a.part.now c.requires.1 c.requires.2 g.ensures.0 in (
      subst (λ (t : ℕ). Went a.keying.words a.keying.flag r.chain a.stack.now r.stacked r.total a.part.now g.new.stack g.result.chain
          g.result.stacked t
          (take (length a.part.now - 64) (drop 64 a.part.now))) (sym g.ensures.1) w,
      omega (arith, w.whole),
    )

pub slice_bounds-quad-end : goal.slice_bounds-quad-end
slice_bounds-quad-end c = sym (length-take-le 4096 c.args.part.now (omega (arith, c.fits_four.ensures c.if-fits_four.true)))

pub returns-then-fits_four : goal.returns-then-fits_four
returns-then-fits_four c =
    let a = c.args in
    let r = a.run in
    let f = c.fits_four.ensures c.if-fits_four.true in
    let v = c.quad-v in
    let p =
    push_rule a.keying.words a.keying.flag r.stacked (r.total / 1024 + 4) v.result a.stack.now
    (ready_four r.stacked r.total (length a.part.now) c.requires.1 f.0 f.1) c.requires.0 v.type_inv.1.0.1 c.push-stacked.ensures in
    let w =
    went_four a.keying.words a.keying.flag r.chain a.stack.now r.stacked r.total a.part.now c.requires.1 c.if-run-ne0.false f.0 f.1 f.2 v.ensures
    p.0 p.1 p.2 in
    (w, omega (arith, w.whole))

pub slice_bounds-chunk-end : goal.slice_bounds-chunk-end
slice_bounds-chunk-end c = sym (length-take-le 1024 c.args.part.now (omega (arith, leb-false)))

pub returns : goal.returns
returns c =
    let a = c.args in
    let r = a.run in
    let v = c.chunk-v in
    let p =
    push_rule a.keying.words a.keying.flag r.stacked (r.total / 1024 + 1) v.result a.stack.now
    (ready_one r.stacked r.total (length a.part.now) c.requires.1 (omega (arith, leb-false))) c.requires.0 v.type_inv.1.0.1
    c.push-stacked-2.ensures in
    let w =
    went_chunk a.keying.words a.keying.flag r.chain a.stack.now r.stacked r.total a.part.now c.requires.1 c.if-run-ne0.false
    (omega (arith, leb-false)) v.ensures p.0 p.1 p.2 in
    (w, omega (arith, w.whole))
