-- Where an input differs, the way is looked at.
use mathlib.Core.Path.{◌∙◌}
use Rattle.digest.specs.Digest.{digest_in}
use Rattle.nodes.specs.Nodes.{node_in}
use Rattle.letter_walk.proofs.Whole.{broken_inside}
use Rattle.letter_finder.proofs.against.way_broken.Goals as goal

pub returns-then-apart : goal.returns-then-apart
returns-then-apart c =
    let a = c.args in
    c.broken_to.ensures ∙ broken_inside (digest_in a.mode.now) (node_in a.nodes.now) a.n a.i c.requires.0 c.requires.1
