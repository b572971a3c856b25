-- What each turn of the loop of `leaf_digests` keeps.
use mathlib.Core.Path.{◌≡◌}
use lib.ListN.{take}
use Rattle.digest.specs.Digest.{digest_in}
use Rattle.passage_root.specs.Root.{leaf_digests}
use Rattle.passage_root.proofs.leaf_digests.Given as goal

abbrev pub invariant-loop-k : goal.invariant-loop-k
invariant-loop-k l = l.bytes ≡ leaf_digests (digest_in l.mode) l.letter (take l.k l.places)
