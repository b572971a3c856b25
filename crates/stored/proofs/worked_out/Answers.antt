-- `stored::worked_out` meets its contract: what is hashed is the record, up to the end.
use mathlib.Core.Path.{ap, ◌∙◌}
use Rattle.digest.specs.Digest.{digest_in}
use Rattle.stored.proofs.Fields.{record_slice_lem}
use Rattle.stored.proofs.worked_out.Goals as goal

pub returns : goal.returns
returns c = c.digest_of.ensures ∙ ap (digest_in c.args.mode.now) (record_slice_lem c.args.bytes.now c.requires)
