-- The height holds all the bytes, so the tree of that height is their tree.
use mathlib.Core.Path.{ap, ◌∙◌}
use native.Mathlib.Omega.{arith}
use lib.Pow.{pow_mono}
use Rattle.words.specs.Words.{bytes_of}
use Rattle.blake.specs.Blake.{digested}
use Rattle.blake.proofs.Sides.{tree_enough}
use Rattle.blake.proofs.tree.digest_in.Goals as goal

pub tree-requires : goal.tree-requires
tree-requires c =
    let h = c.height-h in
    record {
      height = h.ensures.0;
      bytes = h.ensures.1;
      chunks = omega (arith, pow_mono {i = h.result} {j = 54} h.ensures.0);
    }

pub returns : goal.returns
unfolding digested
returns c =
    let k = c.args in
    let h = c.height-h in
    c.unload.ensures ∙ ap bytes_of (c.tree.ensures ∙ tree_enough k.keying.words k.keying.flag 8 0 k.bytes.now h.result h.ensures.1)
