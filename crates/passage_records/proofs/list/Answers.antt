-- `passage_records::list` meets its contract: the first k places of each list are filled.
use mathlib.Core.Path.{sym, ap, ◌∙◌}
use mathlib.Core.List.{List, ◌++◌}
use Prim.Native.Nat.{ℕ}
use lib.ListN.{length, drop}
use Rattle.wire.proofs.Splices.{splice_front}
use Rattle.passage_records.proofs.Listing.{listing_none, listing_more, listing_all}
use Rattle.passage_records.proofs.list.Goals as goal

pub loop-k-init : goal.loop-k-init
loop-k-init c =
    let a = c.args in
    listing_none a.letter.now a.given.now a.places.now a.indexes.now a.starts.now a.lengths.now c.requires

pub loop-k-preserved : goal.loop-k-preserved
loop-k-preserved c =
    let a = c.args in
    listing_more a.letter.now a.given.now a.places.now a.indexes.now a.starts.now a.lengths.now c.requires c.loop-k.invariant
    c.loop-k-test.true c.stated_at.ensures

pub returns : goal.returns
returns c =
    let a = c.args in
    listing_all a.letter.now a.given.now a.places.now a.indexes.now a.starts.now a.lengths.now c.requires c.loop-k.invariant
    (ap (λ (xs : List ℕ). xs ++ drop (length a.given.now) a.indexes.now) c.copy_from_slice.ensures.after ∙ sym (splice_front a.given.now a.indexes.now))
    c.loop-k-test.false
