-- The peaks are folded by recursion on the height: `Folds` has the room that each call has, and what it gives.
use mathlib.Core.Path.{◌∙◌}
use native.Mathlib.Omega.{arith}
use Rattle.digest.specs.Digest.{digest_in}
use Rattle.nodes.specs.Nodes.{node_in}
use Rattle.nodes.proofs.Folds.{fold_height, room_skip, room_rest, fold_skip, fold_one, fold_more}
use Rattle.nodes.proofs.+folded.Goals as goal

pub folded-requires : goal.folded-requires
folded-requires t c = (omega (arith, fold_height _ _ _ c.requires), room_skip _ _ _ c.requires _ c.power-half.ensures c.if-n-half.true)

pub returns-then-n-half : goal.returns-then-n-half
returns-then-n-half t c =
    c.folded.ensures ∙ fold_skip _ _ _ c.requires _ c.power-half.ensures (digest_in c.args.mode.now) (node_in c.args.nodes.now) c.if-n-half.true

pub returns-then-rest-eq0 : goal.returns-then-rest-eq0
returns-then-rest-eq0 t c =
    c.node_at-left.ensures
    ∙ fold_one _ _ _ c.requires _ c.power-half.ensures (digest_in c.args.mode.now) (node_in c.args.nodes.now) c.if-n-half.false c.if-rest-eq0.true

pub folded-right-requires : goal.folded-right-requires
folded-right-requires t c =
    (omega (arith, fold_height _ _ _ c.requires), room_rest _ _ _ c.requires _ c.power-half.ensures c.if-n-half.false c.if-rest-eq0.false)

pub returns : goal.returns
returns t c =
    fold_more _ _ _ c.requires _ c.power-half.ensures (digest_in c.args.mode.now) (node_in c.args.nodes.now) c.if-n-half.false c.if-rest-eq0.false
    c.digest_of_pair.ensures c.node_at-left.ensures c.folded-right.ensures
