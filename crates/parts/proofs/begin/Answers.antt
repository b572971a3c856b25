-- The number and the key, each read where it stands.
use mathlib.Core.Path.{ap₂, ◌∙◌}
use Rattle.digest.specs.Modes.{number_in, key_in}
use Rattle.parts.specs.Answers.{begun_in, begin_outcome}
use Rattle.parts.proofs.begin.Goals as goal

pub returns : goal.returns
unfolding begin_outcome number_in key_in
returns c = c.begun.ensures ∙ ap₂ begun_in c.read4-number.ensures c.read_digest-key.ensures
