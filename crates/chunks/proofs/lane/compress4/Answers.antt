-- Lane after lane is filled with the eight words of one compression.
use Rattle.std.proofs.Common.{◌≡◌, ℕ, ◌+◌, ◌*◌, ◌%◌, List, take, drop, refl, ap, ap₂, ◌∙◌, arith}
use native.Mathlib.Nat.{add-sub_cancel_left}
use Rattle.compression.specs.Compression.{compressed}
use Rattle.words.specs.Words.{words_of}
use Rattle.chunks.specs.Lanes.{lane_of, laned}
use Rattle.chunks.specs.Steps.{compressed4}
use Rattle.words.proofs.Fill.{fills_none, fills_more, fills_less, fills_all}
use Rattle.chunks.proofs.Laned.{rule_at}
use Rattle.chunks.proofs.lane.compress4.Invariants.{lane_of_lem}
use Rattle.chunks.proofs.lane.compress4.Goals as goal

pub loop-k-init : goal.loop-k-init
loop-k-init c = fills_none refl

pub loop-i-init : goal.loop-i-init
loop-i-init c = fills_less (omega arith) c.loop-k.invariant

pub loop-i-preserved : goal.loop-i-preserved
loop-i-preserved c =
    let a = c.args in
    let k = c.loop-k.k in
    let p = 1024 * k + a.at in
    let r : k % 4 ≡ k = omega arith in
    fills_less (omega arith)
    (fills_more (omega arith)
    (rule_at (lane_of_lem a.cv a.bytes.now a.at a.n a.flags) k c.loop-i.i c.loop-i-test.true
    (c.compress_lane-v.ensures
    ∙ ap₂ (λ (x y : List ℕ). compressed x y (a.n + k) 64 a.flags)
    (c.lane.ensures ∙ ap (lane_of a.cv) r)
    (c.load.ensures ∙ ap (λ (j : ℕ). words_of 16 (take j (drop p a.bytes.now))) (add-sub_cancel_left p 64))))
    c.loop-i.invariant)

pub loop-k-preserved : goal.loop-k-preserved
loop-k-preserved c = fills_less (omega arith) c.loop-i.invariant

pub returns : goal.returns
unfolding compressed4 laned
returns c = fills_all (omega arith) c.loop-k.invariant
