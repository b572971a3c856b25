-- A parent is one compression of left then right.
use Rattle.std.proofs.Common.{◌+◌, List, ℕ, ap, ◌∙◌}
use Rattle.compression.specs.Compression.{compressed}
use Rattle.blake.specs.Blake.{parented}
use Rattle.blake.proofs.tree.parent.Goals as goal

pub returns : goal.returns
unfolding parented
returns c =
    let k = c.args.keying in
    c.compress.ensures ∙ ap (λ (m : List ℕ). compressed k.words m 0 64 (k.flag + 4 + c.args.root)) c.join.ensures
