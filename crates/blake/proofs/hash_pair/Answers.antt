-- The hash of two digests in a mode is that of their 64 bytes.
use mathlib.Core.List.{◌++◌}
use Rattle.blake.proofs.Modes.{mode_hash}
use Rattle.blake.proofs.hash_pair.Goals as goal

pub returns : goal.returns
returns c = cc (mode_hash c.args.keyed c.args.key.now (c.args.left ++ c.args.right))
