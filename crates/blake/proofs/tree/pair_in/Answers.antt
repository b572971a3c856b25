-- Two digests are one block of 64 bytes, and that is one compression: `Pair` has both laws.
use mathlib.Core.Path.{ap, ap₂, ◌∙◌}
use mathlib.Core.List.{List, ◌++◌}
use Prim.Native.Nat.{ℕ, ◌+◌}
use Rattle.compression.specs.Compression.{compressed}
use Rattle.words.specs.Words.{bytes_of}
use Rattle.blake.proofs.tree.Pair.{pair_digest}
use Rattle.std.proofs.Common.{rules}
use Rattle.blake.proofs.tree.pair_in.Goals as goal

pub returns : goal.returns
returns c =
    let k = c.args in
    c.unload.ensures
    ∙ ap bytes_of
    (c.compress.ensures
    ∙ ap (λ (m : List ℕ). compressed k.keying.words m 0 64 (k.keying.flag + 11))
    (c.join-m.ensures
    ∙ ap₂ (λ (x y : List ℕ). x ++ y) c.load_half.ensures c.load_half-2.ensures))
    ∙ pair_digest k.keying.words k.keying.flag k.left k.right (search rules) (search rules)
