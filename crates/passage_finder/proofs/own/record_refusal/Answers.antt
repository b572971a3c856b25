-- Each refusal is the first of the order of one record that applies.
use mathlib.Core.Path.{sym, ap, ◌∙◌}
use Rattle.digest.specs.Digest.{digest_in}
use Rattle.order.proofs.Laws.{first_is, first_none}
use Rattle.wire.specs.Slices.{bit}
use Rattle.nodes.specs.Nodes.{node_in}
use Rattle.letter.proofs.Foreign.{foreign_by}
use Rattle.inputs.proofs.Differences.{beside_known}
use Rattle.passage_finder.specs.Steps.{one_order}
use borrow.Author.Rules.{rules}
use Rattle.passage_finder.proofs.own.record_refusal.Goals as goal

pub returns-then-rec-gt-LONGEST_RECORD : goal.returns-then-rec-gt-LONGEST_RECORD
unfolding one_order
returns-then-rec-gt-LONGEST_RECORD c = first_is 3 _ (search rules)

pub returns-then-foreign : goal.returns-then-foreign
unfolding one_order
returns-then-foreign c =
    let a = c.args in
    let e = foreign_by (digest_in a.mode.now) (node_in a.nodes.now) a.i a.rec.now
    (c.record_beside-own.ensures ∙ beside_known a.apart (digest_in a.mode.now a.rec.now) a.leaf.bytes c.requires)
    (sym (ap bit c.if-foreign.true) ∙ c.foreign.ensures) in
    first_is 13 _ (search rules)

pub returns : goal.returns
unfolding one_order
returns c =
    let a = c.args in
    let e = foreign_by (digest_in a.mode.now) (node_in a.nodes.now) a.i a.rec.now
    (c.record_beside-own.ensures ∙ beside_known a.apart (digest_in a.mode.now a.rec.now) a.leaf.bytes c.requires)
    (sym (ap bit c.if-foreign.false) ∙ c.foreign.ensures) in
    first_none _ (search rules)
