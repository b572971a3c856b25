-- The leaf and its parents are written one behind the other: `Writing` has what holds after each.
use mathlib.Core.Path.{ap, ◌∙◌}
use mathlib.Core.List.{List, ◌++◌}
use Prim.Native.Nat.{ℕ}
use lib.ListN.{length}
use Rattle.digest.specs.Digest.{digest_in, digest_length}
use Rattle.wire.specs.Slices.{splice, joined}
use Rattle.new_nodes.specs.Steps.{left_in, ups}
use Rattle.new_nodes.proofs.Writing.{writes_none, writes_more, writes_all}
use Rattle.new_nodes.proofs.write_new.Goals as goal

pub loop-j-init : goal.loop-j-init
loop-j-init c =
    let a = c.args in
    let e = c.digest_of-top.ensures in
    writes_none a.mode.now (left_in a.saved.now) _ a.tail.now a.m (ap length e ∙ digest_length a.mode.now a.rec.now) c.requires.1
    c.write_digest.ensures

pub loop-j-preserved : goal.loop-j-preserved
loop-j-preserved c =
    writes_more c.loop-j.invariant c.loop-j-test.true
    (c.digest_of_pair-top.ensures
    ∙ ap (λ (l : List ℕ). digest_in c.args.mode.now (l ++ c.loop-j.top.bytes)) c.read_digest-left.ensures)
    c.write_digest-in-loop-j.ensures

pub returns : goal.returns
returns c =
    let a = c.args in
    writes_all c.loop-j.invariant a.tail.now c.loop-j-test.false c.write_digest.ensures c.requires.1
    ∙ ap (λ (x : List ℕ). splice 0 (joined (ups a.mode.now (left_in a.saved.now) a.m x)) a.tail.now) c.digest_of-top.ensures
