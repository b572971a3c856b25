-- A block inside its chunk, or the last: `Going` has what comes of each.
use mathlib.Core.Path.{refl}
use Prim.Native.Nat.{◌+◌}
use Rattle.parts_rule.proofs.Counts.{pushes_at}
use Rattle.subtrees.proofs.Laws.{push_rule}
use Rattle.parts_rule.proofs.Going.{gone_end, gone_on_lem}
use Rattle.parts.proofs.blocks.go_on.Goals as goal

pub returns-then-run-n-eq1024 : goal.returns-then-run-n-eq1024
returns-then-run-n-eq1024 c =
    let a = c.args in
    let r = a.run in
    let n = c.chunks_before-n in
    let v = c.compress-v in
    let p =
    push_rule a.keying.words a.keying.flag r.stacked (n.result + 1) v.result a.stack.now
    (pushes_at r.total r.stacked c.requires.2 n.ensures c.if-run-n-eq1024.true) c.requires.0 v.type_inv.1.0.1 c.push-stacked.ensures in (
      gone_end a.keying.words a.keying.flag r.chain a.stack.now r.stacked r.total a.block.now c.requires.1 c.requires.2 n.ensures
          c.opening-flags.ensures.0 c.load.ensures c.if-run-n-eq1024.true v.ensures p.0 p.1 p.2,
      refl,
    )

pub returns : goal.returns
returns c =
    let a = c.args in
    let r = a.run in (
      gone_on_lem a.keying.words a.keying.flag r.chain a.stack.now r.stacked r.total a.block.now c.requires.1 c.requires.2
          c.chunks_before-n.ensures c.opening-flags.ensures.0 c.load-2.ensures c.if-run-n-eq1024.false c.requires.0 c.compress-chain.ensures,
      refl,
    )
