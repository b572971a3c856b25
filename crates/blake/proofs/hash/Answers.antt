-- The hash in a mode is the digest with its words and its flag.
use Rattle.blake.proofs.Modes.{mode_hash}
use Rattle.blake.proofs.hash.Goals as goal

pub returns : goal.returns
returns c = cc (mode_hash c.args.keyed c.args.key.now c.args.bytes.now)
