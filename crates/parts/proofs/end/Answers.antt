-- The refusal, and the digest.
use Rattle.std.proofs.Common.{ap, ◌∙◌}
use Rattle.std.proofs.lemmas.Result.{err_from_is_err_and}
use Rattle.refusals.proofs.Laws.{number_above}
use Rattle.parts.specs.Answers.{end_outcome}
use Rattle.parts.proofs.Answering.{end_refused_lem, end_done}
use Rattle.parts.proofs.end.Goals as goal

pub returns-in_err-sound : goal.returns-in_err-sound
returns-in_err-sound c =
    let p = err_from_is_err_and c.from_residual.result c.from_residual.ensures.1 in
    rw (p.1, p.2) (end_refused_lem c.args.state c.in_err-sound.ensures.number (number_above c.in_err-sound.field-0.0))

pub returns : goal.returns
returns c = let s = c.in_ok-sound in end_done s.sound.state s.sound.counts c.finish.ensures ∙ ap end_outcome s.ensures.same
