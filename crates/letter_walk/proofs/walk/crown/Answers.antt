-- Within a peak the node; above the peaks the digest of the log's input beside the letter's.
use mathlib.Core.Path.{sym, ◌∙◌}
use borrow.Author.Tests.{eq-eqb, ne_eqb}
use Rattle.inputs.proofs.Forks.{top_some, top_none}
use Rattle.letter_walk.specs.Steps.{crown}
use Rattle.letter_walk.proofs.walk.crown.Goals as goal

pub returns-in-Some : goal.returns-in-Some
unfolding crown
returns-in-Some c =
    let a = c.args.at in
    let t = top_some c.args.nodes.now a.half a.rest a.mid c.in-Some.node c.in-Some.ensures in
    t.1 ∙ sym (rw (eq-eqb a.rest a.half t.0, crown))

pub returns-in-None : goal.returns-in-None
unfolding crown
returns-in-None c =
    let a = c.args.at in
    c.digest_beside.ensures ∙ sym (rw (ne_eqb a.rest a.half (top_none c.args.nodes.now a.half a.rest a.mid c.in-None.ensures), crown))
