-- Each refusal is the first of its order that applies, by what the walk finds; then the answer is settled.
use mathlib.Core.Path.{◌≡◌, refl, sym, ap₂, ◌∙◌}
use mathlib.Core.List.{List}
use Prim.Native.Nat.{ℕ}
use borrow.Author.Rules.{rules}
use Rattle.digest.specs.Digest.{digest_in}
use Rattle.order.proofs.Laws.{refuses, passes}
use Rattle.wire.specs.Slices.{differ, rows_from}
use Rattle.wire.proofs.Differences.{same_of_differ}
use Rattle.shape.specs.Tree.{root}
use Rattle.shape.specs.Difference.{Diff}
use Rattle.nodes.specs.Nodes.{node_in}
use Rattle.letter.specs.Items.{item_count, tree_of}
use Rattle.letter.proofs.Foreign.{foreign_by}
use Rattle.difference.specs.Outcome.{settled}
use Rattle.letter_walk.specs.declared.Trail.{Trail}
use Rattle.letter_finder.specs.Outcome.{own_root, own_order}
use Rattle.letter_finder.specs.Steps.{against_outcome}
use Rattle.letter_finder.proofs.against.Whole.{Whole, whole, own_is, whole_sound}
use Rattle.letter_finder.proofs.against.against.Goals as goal

-- whether the two roots differ, by what the walk found
roots : {mode nodes theirs items : List ℕ} {n i : ℕ} {w : Trail} {d : ℕ} → Whole mode nodes n i theirs items w → d ≡ differ w.log.bytes w.letter.bytes
    → d ≡ differ (own_root (digest_in mode) (node_in nodes) n)
    (root (digest_in mode) (tree_of (digest_in mode) n i theirs (rows_from 32 0 (item_count n i) items)))
roots k e = e ∙ ap₂ differ k.log k.letter

pub returns-then-digests_differ : goal.returns-then-digests_differ
unfolding against_outcome
returns-then-digests_differ c =
    let a = c.args in
    let w = whole a.mode.now a.nodes.now a.n a.i a.theirs.now a.items.now {w = c.walk_to-w.result} c.requires.0 c.requires.1 c.digest_of-leaf.ensures c.walk_to-w.ensures in
    let e = roots w c.if-digests_differ.ensures in
    refuses 9 _ _ _ refl (search rules)

pub returns-then-rec-gt-LONGEST_RECORD : goal.returns-then-rec-gt-LONGEST_RECORD
unfolding against_outcome own_order
returns-then-rec-gt-LONGEST_RECORD c =
    let a = c.args in
    let w = whole a.mode.now a.nodes.now a.n a.i a.theirs.now a.items.now {w = c.walk_to-w.result} c.requires.0 c.requires.1 c.digest_of-leaf.ensures c.walk_to-w.ensures in
    let e = roots w c.if-digests_differ.ensures in
    passes _ _ _ (refuses 3 _ _ _ refl (search rules)) (search rules)

pub returns-then-foreign : goal.returns-then-foreign
unfolding against_outcome own_order
returns-then-foreign c =
    let a = c.args in
    let w = whole a.mode.now a.nodes.now a.n a.i a.theirs.now a.items.now {w = c.walk_to-w.result} c.requires.0 c.requires.1 c.digest_of-leaf.ensures c.walk_to-w.ensures in
    let e = roots w c.if-digests_differ.ensures in
    let f = foreign_by (digest_in a.mode.now) (node_in a.nodes.now) a.i a.rec.now
    (own_is a.mode.now a.rec.now a.theirs.now _ c.differ-apart.ensures c.digest_of-leaf.ensures c.record_beside-own.ensures) c.if-foreign.ensures in
    passes _ _ _ (refuses 13 _ _ _ refl (search rules)) (search rules)

pub way_broken-requires : goal.way_broken-requires
way_broken-requires c =
    let a = c.args in
    let p = c.requires in
    let w = whole a.mode.now a.nodes.now a.n a.i a.theirs.now a.items.now {w = c.walk_to-w.result} p.0 p.1 c.digest_of-leaf.ensures c.walk_to-w.ensures in
    let e = same_of_differ _ _ (sym c.if-digests_differ.ensures) in
    (p.0, p.1, λ z. whole_sound w p.0 e (sym c.is_some.ensures ∙ z))

pub returns-then-way_broken : goal.returns-then-way_broken
unfolding against_outcome own_order
returns-then-way_broken c =
    let a = c.args in
    let w = whole a.mode.now a.nodes.now a.n a.i a.theirs.now a.items.now {w = c.walk_to-w.result} c.requires.0 c.requires.1 c.digest_of-leaf.ensures c.walk_to-w.ensures in
    let e = roots w c.if-digests_differ.ensures in
    let f = foreign_by (digest_in a.mode.now) (node_in a.nodes.now) a.i a.rec.now
    (own_is a.mode.now a.rec.now a.theirs.now _ c.differ-apart.ensures c.digest_of-leaf.ensures c.record_beside-own.ensures) c.if-foreign.ensures in
    let b = c.if-way_broken.ensures in
    passes _ _ _ (refuses 14 _ _ _ refl (search rules)) (search rules)

pub returns : goal.returns
unfolding against_outcome own_order
returns c =
    let a = c.args in
    let w = whole a.mode.now a.nodes.now a.n a.i a.theirs.now a.items.now {w = c.walk_to-w.result} c.requires.0 c.requires.1 c.digest_of-leaf.ensures c.walk_to-w.ensures in
    let e = roots w c.if-digests_differ.ensures in
    let f = foreign_by (digest_in a.mode.now) (node_in a.nodes.now) a.i a.rec.now
    (own_is a.mode.now a.rec.now a.theirs.now _ c.differ-apart.ensures c.digest_of-leaf.ensures c.record_beside-own.ensures) c.if-foreign.ensures in
    let b = c.if-way_broken.ensures in
    let o = c.settle.ensures ∙ ap₂ (λ (d : Diff) (m : ℕ). settled d m a.first.now a.second.now) w.first c.differ-apart.ensures in
    passes _ _ _ (passes _ _ _ o (search rules)) (search rules)
