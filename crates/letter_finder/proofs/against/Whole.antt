-- What a walk to the letter's index finds, by the letter's record and items.
use mathlib.Core.Path.{◌≡◌, refl, sym, ap, ◌∙◌}
use mathlib.Core.List.{List}
use Prim.Native.Nat.{ℕ, ◌^◌, ◌≤◌, ◌<◌}
use lib.ListN.{length}
use Rattle.std.specs.Prelude.{Bool, false, Option, None, Some}
use Rattle.std.specs.Option.{is_some}
use Rattle.inputs.specs.declared.Unequal.{Unequal}
use Rattle.digest.specs.Digest.{digest_in, digest_length}
use Rattle.wire.specs.Slices.{bit, differ, rows_from}
use Rattle.shape.specs.Tree.{root, inputs}
use Rattle.shape.specs.Way.{way}
use Rattle.shape.specs.Difference.{agree, difference}
use Rattle.shape.specs.Seen.{seen, broken}
use Rattle.nodes.specs.Nodes.{node_in}
use Rattle.letter.specs.Items.{item_count, tree_of}
use Rattle.wire.proofs.Rows.{digests_length, digests_each}
use Rattle.nodes.proofs.Joined.{node_length}
use Rattle.letter_walk.specs.declared.Trail.{Trail}
use Rattle.letter_walk.specs.Outcome.{WalkOutcome, walked_off, walk_done, walk_outcome}
use Rattle.letter_walk.proofs.Whole.{walk_inside}
use Rattle.letter_finder.specs.Outcome.{own_root}
use Rattle.inputs.specs.Inputs.{beside, told}
use Rattle.inputs.proofs.Differences.{beside_own}
use Rattle.shape.proofs.Beside.{agreed}

-- what the walk finds in the nodes bs, of a letter's record and items
pub record Whole (mode bs : List ℕ) (n i : ℕ) (theirs items : List ℕ) (w : Trail) : Type 0 where
  pub log : w.log.bytes ≡ own_root (digest_in mode) (node_in bs) n
  pub letter : w.letter.bytes ≡ root (digest_in mode) (tree_of (digest_in mode) n i theirs (rows_from 32 0 (item_count n i) items))
  pub first : told w.difference
      ≡ difference (seen (digest_in mode) (node_in bs) n i) (inputs (digest_in mode) (tree_of (digest_in mode) n i theirs (rows_from 32 0 (item_count n i) items)))

pub whole : (mode bs : List ℕ) (n i : ℕ) (theirs items : List ℕ) {leaf : List ℕ} {w : Trail} → i < n → n ≤ 2 ^ 32 → leaf ≡ digest_in mode theirs
    → walked_off w ≡ walk_outcome (digest_in mode) (node_in bs) n i leaf items → Whole mode bs n i theirs items w
unfolding item_count
whole mode bs n i theirs items {leaf} {w} p q l o =
    let e : walked_off w ≡ walk_done (digest_in mode) (node_in bs) n i (digest_in mode theirs) items =
    o ∙ walk_inside (digest_in mode) (node_in bs) n i leaf items p q ∙ ap (λ (x : List ℕ). walk_done (digest_in mode) (node_in bs) n i x items) l in
    record {
      log = ap (λ (x : WalkOutcome). x.log) e;
      letter = ap (λ (x : WalkOutcome). x.letter) e;
      first = ap (λ (x : WalkOutcome). x.first) e;
    }

-- the digest of the log's own record, beside the letter's
pub own_is : (mode rec theirs : List ℕ) (apart : Bool) {leaf own : List ℕ} → bit apart ≡ differ rec theirs → leaf ≡ digest_in mode theirs
    → own ≡ beside apart (digest_in mode rec) leaf → own ≡ digest_in mode rec
own_is mode rec theirs apart {leaf} e f o = o ∙ beside_own rec theirs (digest_in mode) apart leaf e f

-- where no two inputs are told, no input differs
alike : (d : Option Unequal) → is_some d ≡ false → told d ≡ agree
alike None e = refl
alike (Some u) e = absurd cc

-- where the two roots are one and no input differs, no node on the path is broken
pub whole_sound : {mode bs : List ℕ} {n i : ℕ} {theirs items : List ℕ} {w : Trail} → Whole mode bs n i theirs items w → i < n
    → w.log.bytes ≡ w.letter.bytes → is_some w.difference ≡ false → broken (digest_in mode) (node_in bs) n i ≡ 0
unfolding item_count
whole_sound {mode} {bs} {n} {i} {theirs} {items} {w} k p e z =
    let xs = rows_from 32 0 (length (way n i)) items in
    let a : told w.difference ≡ agree = alike w.difference z in
    agreed (digest_in mode) (digest_length mode) (node_in bs) (node_length bs) (digest_in mode theirs) (digest_length mode theirs) n i xs p
    (digests_length 0 (length (way n i)) items) (digests_each 0 (length (way n i)) items)
    (sym k.log ∙ e ∙ k.letter) (sym k.first ∙ a)
