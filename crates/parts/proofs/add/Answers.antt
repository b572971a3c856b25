-- The two refusals, a part of no bytes, and a part.
use Rattle.std.proofs.Common.{◌≡◌, length, ap, subst, ◌∙◌, arith, rules}
use Rattle.std.proofs.lemmas.Result.{err_from_is_err_and}
use Rattle.refusals.proofs.Laws.{number_above}
use Rattle.parts.specs.declared.Parts.{Parts}
use Rattle.parts.specs.State.{Counted}
use Rattle.parts.specs.Answers.{after}
use Rattle.parts.proofs.Answering.{add_refused_lem, add_passed, add_done, after_none, after_some}
use Rattle.parts.proofs.add.Goals as goal

pub returns-in_err-sound : goal.returns-in_err-sound
returns-in_err-sound c =
    let p = err_from_is_err_and c.from_residual.result c.from_residual.ensures.1 in
    rw (p.1, p.2) (add_refused_lem c.args.state c.args.part.now c.in_err-sound.ensures.number (number_above c.in_err-sound.field-0.0))

pub returns-then-sound-part : goal.returns-then-sound-part
returns-then-sound-part c =
    let same = ap (λ (s : Parts). s.total) c.in_ok-sound.ensures.same in
    add_passed c.args.state c.args.part.now (omega (arith, same, c.if-sound-part.true))

pub returns-then-is_empty : goal.returns-then-is_empty
returns-then-is_empty c =
    let none : length c.args.part.now ≡ 0 = search (rules, c.is_empty.ensures, c.if-is_empty.true) in
    let g = subst Counted c.in_ok-sound.ensures.same c.in_ok-sound.sound.counts in
    add_done c.args.state c.args.part.now g (omega (arith, none, g.limit)) (after_none c.args.state c.args.part.now none)

pub returns : goal.returns
returns c =
    let s = c.in_ok-sound in
    let same = ap (λ (s : Parts). s.total) s.ensures.same in
    let g = subst Counted s.ensures.same s.sound.counts in
    add_done c.args.state c.args.part.now g (omega (arith, same, c.if-sound-part.false, g.limit))
    (c.take_in.ensures ∙ after_some s.sound.state c.args.part.now (search (rules, arith, c.is_empty.ensures, c.if-is_empty.false))
    ∙ ap (λ (s : Parts). after s c.args.part.now) s.ensures.same)
