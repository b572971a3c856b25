-- Each refusal is the first of its order that applies, by what the walk finds and what is known of the log's own records; then the answer is settled.
use mathlib.Core.Path.{◌≡◌, refl, sym, ap, ap₂, ◌∙◌}
use native.Mathlib.Omega.{arith}
use Rattle.std.specs.Prelude.{Err}
use Rattle.refusals.proofs.Laws.{number_above}
use Rattle.digest.specs.Digest.{digest_in}
use Rattle.order.proofs.Laws.{refuses, passes}
use Rattle.wire.specs.Slices.{bit, differ}
use Rattle.shape.specs.Difference.{Diff}
use Rattle.nodes.specs.Nodes.{node_in}
use Rattle.findings.specs.Outcome.{Apart, named_refused, named, named_settled}
use Rattle.passage.specs.Bytes.{places, indexes_in, records_in}
use Rattle.passage_finder.specs.Steps.{comparing}
use Rattle.passage_finder.proofs.Formed.{beside, Whole, whole, own_whole}
use Rattle.passage_finder.proofs.Owned.{owned_refused, owned_apart, owned_passed}
use borrow.Author.Rules.{rules}
use Rattle.passage_finder.proofs.against.against.Goals as goal

-- the lists stand in the first places of the two arrays
pub shared_ref_as_front-is : goal.shared_ref_as_front-is
shared_ref_as_front-is c = let p = c.requires in omega (arith, p.count, p.few)

pub returns-then-digests_differ : goal.returns-then-digests_differ
unfolding comparing
returns-then-digests_differ c =
    let a = c.args in
    let known : Whole c.requires a.mode.now a.nodes.now c.walk_of-w.result = whole c.requires a.mode.now a.nodes.now c.leaf_digests-leaves.ensures c.walk_of-w.ensures in
    let e = sym (ap bit c.if-digests_differ.true) ∙ c.digests_differ.ensures ∙ ap₂ differ known.log known.worked in
    refuses 9 _ _ _ refl (search rules)

pub own_records-requires : goal.own_records-requires
own_records-requires c =
    beside c.requires c.args.mode.now c.leaf_digests-leaves.ensures

pub returns-in_err-apart : goal.returns-in_err-apart
unfolding comparing
returns-in_err-apart c =
    let a = c.args in
    let known : Whole c.requires a.mode.now a.nodes.now c.walk_of-w.result = whole c.requires a.mode.now a.nodes.now c.leaf_digests-leaves.ensures c.walk_of-w.ensures in
    let e = sym (ap bit c.if-digests_differ.false) ∙ c.digests_differ.ensures ∙ ap₂ differ known.log known.worked in
    let why = c.in_err-apart.field-0.0 in
    let r : c.from_residual.result ≡ Err why = search rules in
    ap (λ r. named r a.first.now a.second.now) r
    ∙ passes _ _ _
    (owned_refused (digest_in a.mode.now) (node_in a.nodes.now) (indexes_in a.letter.now) a.records.now a.lengths.now
    (places a.letter.now) a.letter.now (named_refused a.first.now a.second.now) a.n _ (number_above why)
    (own_whole c.requires a.mode.now a.nodes.now a.records.now a.lengths.now c.in_err-apart.ensures))
    (search rules)

-- settled: first, as a finder that never answers 14 is refused there
pub returns : goal.returns
unfolding comparing records_in
returns c =
    let a = c.args in
    let known : Whole c.requires a.mode.now a.nodes.now c.walk_of-w.result = whole c.requires a.mode.now a.nodes.now c.leaf_digests-leaves.ensures c.walk_of-w.ensures in
    let e = sym (ap bit c.if-digests_differ.false) ∙ c.digests_differ.ensures ∙ ap₂ differ known.log known.worked in
    let own = own_whole c.requires a.mode.now a.nodes.now a.records.now a.lengths.now c.in_ok-apart.ensures in
    let b = sym (ap bit c.if-w.false) ∙ known.broken in
    let y =
    c.settle.ensures
    ∙ ap₂ (λ (d : Diff) (x : Apart). named_settled d x a.first.now a.second.now) known.first
    (owned_apart (digest_in a.mode.now) (node_in a.nodes.now) (indexes_in a.letter.now) a.records.now a.lengths.now
    (places a.letter.now) a.letter.now own) in
    passes _ _ _
    (owned_passed (digest_in a.mode.now) (node_in a.nodes.now) (indexes_in a.letter.now) a.records.now a.lengths.now
    (places a.letter.now) a.letter.now own _ a.n _ (passes _ _ _ y (search rules)))
    (search rules)

pub returns-then-w : goal.returns-then-w
unfolding comparing
returns-then-w c =
    let a = c.args in
    let known : Whole c.requires a.mode.now a.nodes.now c.walk_of-w.result = whole c.requires a.mode.now a.nodes.now c.leaf_digests-leaves.ensures c.walk_of-w.ensures in
    let e = sym (ap bit c.if-digests_differ.false) ∙ c.digests_differ.ensures ∙ ap₂ differ known.log known.worked in
    let own = own_whole c.requires a.mode.now a.nodes.now a.records.now a.lengths.now c.in_ok-apart.ensures in
    let b = sym (ap bit c.if-w.true) ∙ known.broken in
    passes _ _ _
    (owned_passed (digest_in a.mode.now) (node_in a.nodes.now) (indexes_in a.letter.now) a.records.now a.lengths.now
    (places a.letter.now) a.letter.now own _ a.n _
    (refuses 14 _ _ _ refl (search rules)))
    (search rules)
