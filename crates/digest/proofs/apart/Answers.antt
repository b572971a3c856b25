-- The number and the key, each read where it stands.
use Rattle.digest.specs.Modes.{number_in, key_in}
use Rattle.digest.proofs.apart.Goals as goal

pub returns : goal.returns
unfolding number_in key_in
returns c = (c.read4-number.ensures, c.read_digest-key.ensures)
