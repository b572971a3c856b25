-- What the finder finds in a log's own nodes, over any digest function: of an accepted letter, of our letter, and where it says "same".
use mathlib.Core.Path.{◌≡◌, sym, ap, ap₂, ◌∙◌}
use mathlib.Core.List.{List, map}
use Prim.Native.Nat.{ℕ, ◌*◌, ◌≤◌, ◌<◌}
use native.Mathlib.Omega.{arith}
use borrow.Author.Rules.{rules}
use lib.ListN.{length}
use Rattle.order.specs.Order.{Test, ◌under◌}
use Rattle.order.proofs.Laws.{passes}
use Rattle.wire.specs.Numbers.{Bytes}
use Rattle.wire.specs.Slices.{differ, Each}
use Rattle.wire.proofs.Differences.{differ_same, differ_other, same_of_differ}
use Rattle.wire.proofs.Splices.{splice_front}
use Rattle.shape.specs.Tree.{Tree, inputs}
use Rattle.shape.specs.Folded.{tree}
use Rattle.shape.specs.Letter.{fill}
use Rattle.shape.specs.Way.{way}
use Rattle.shape.specs.Difference.{decided, Diff, agree, unequal, difference, ShownAt}
use Rattle.shape.proofs.Difference.{difference_none}
use Rattle.shape.proofs.Letters.{letter_bind}
use Rattle.nodes.specs.Nodes.{node_in}
use Rattle.evidence_log.specs.Outcome.{root_order}
use Rattle.letter.specs.Bytes.{letter_bytes, index_in, record_in, items_in}
use Rattle.letter.specs.Items.{item_count, foreign, letter_tree, worked_root}
use Rattle.letter.proofs.Spelling.{items_length, items_32}
use Rattle.letter.proofs.Fits.{Fits, pass_fits, fits_pass, fits_spelt}
use Rattle.letter_writer.specs.Outcome.{our_letter}
use Rattle.difference.specs.Outcome.{find_done, room_order}
use Rattle.letter_finder.specs.Outcome.{first_difference, own_order, find_order, find_over, find_outcome}
use Rattle.letter_finder.proofs.Stages.{find_pass, find_passed, find_same}
use Rattle.letter_promise.specs.Terms.{log_size, record_at, Ends, ends_same, ends_records, ends_pair}
use Rattle.letter_promise.specs.Promise.{ours}
use Rattle.letter_promise.specs.Promise.{EveryAcceptedEnds, EveryOursSame, EverySameOurs}
use Rattle.letter_promise.proofs.Kept.{Kept, log_root, own_items, counts, log_32, own_root_lem, record_short, leads, not_foreign, not_broken, shown}
use Rattle.letter_promise.proofs.Ours.{letter_own, ours_index, ours_record, ours_tree}
use Rattle.letter_promise.proofs.Checked.{accepted_fits, ours_fits}

module _ {digest : List ℕ → List ℕ} {rs : List (List ℕ)} {bs : List ℕ} (k : Kept digest rs bs) where
  abbrev n : ℕ
  n = length rs

  abbrev Fitting : List ℕ → Type 0
  Fitting letter = Fits digest (log_size rs) n (log_root k) letter

  -- the test of number 4
  abbrev short : Test
  short = length bs under 32 * log_size rs

  -- no refusal applies to a letter that passes
  find_done_lem : (letter first second : List ℕ) (i : ℕ) → i ≡ index_in letter → Fitting letter → 64 ≤ length first → 64 ≤ length second
      → find_outcome digest (log_size rs) bs (record_at rs i) letter first second
      ≡ find_done (first_difference digest (node_in bs) n letter) (differ (record_at rs i) (record_in letter)) first second
  unfolding find_outcome find_over root_order own_order room_order
  find_done_lem letter first second i e f u v =
      let p : i < n = omega (arith, f.inside) in
      let c = counts k in
      let s = record_short k i p in
      let o : foreign digest (node_in bs) (index_in letter) (record_at rs i) ≡ 0 =
      ap (λ (j : ℕ). foreign digest (node_in bs) j (record_at rs i)) (sym e) ∙ not_foreign k i p in
      let b = not_broken k (index_in letter) f.inside in
      let some = k.log.some in
      let room = k.room in
      sym (passes _ (find_order digest (node_in bs) short (log_size rs) (record_at rs i) letter first second) _
      {r = find_done (first_difference digest (node_in bs) n letter) (differ (record_at rs i) (record_in letter)) first second}
      (rw c.value)
      (find_pass digest (node_in bs) (log_size rs) (record_at rs i) letter first second short (search rules)
      (rw (c.value, own_root_lem k) (fits_pass digest (log_size rs) n (log_root k) letter f))
      (rw c.value (s, (o, (b, tt))))
      (search rules)))

  -- the letter's side of the comparison, and what it shows
  module _ (letter : List ℕ) (f : Fitting letter) where
    abbrev i : ℕ
    i = index_in letter

    abbrev xs : List (List ℕ)
    xs = items_in (item_count n i) letter

    -- the log's leaf and items are the letter's
    abbrev Agree : Type 0
    Agree = (digest (record_at rs i) ≡ digest (record_in letter)) × (own_items k i ≡ xs)

    items_many : length xs ≡ length (way n i)
    unfolding item_count
    items_many = items_length (item_count n i) letter

    items_each : Each 32 xs
    items_each = items_32 (item_count n i) letter

    compared : first_difference digest (node_in bs) n letter
        ≡ difference (inputs digest (fill (way n i) (digest (record_at rs i)) (own_items k i))) (inputs digest (letter_tree digest n letter))
    compared = ap (λ (l : List (List ℕ)). difference l (inputs digest (letter_tree digest n letter))) (shown k i f.inside)

    bound : ShownAt digest (tree (map digest rs)) (letter_tree digest n letter) Agree (first_difference digest (node_in bs) n letter)
    unfolding worked_root
    bound =
        rw compared
        (letter_bind digest k.digest_32 (leads k i f.inside) (log_32 k) (digest (record_in letter)) xs (k.digest_32 _) items_each items_many
        (sym f.rooted))

    -- where the items agree, the letter is ours of its record
    is_ours : Bytes letter → own_items k i ≡ xs → letter ≡ our_letter digest (log_size rs) i (record_in letter) (node_in bs)
    is_ours b e =
        fits_spelt digest (log_size rs) n (log_root k) letter b f
        ∙ ap (letter_bytes (log_size rs) i (record_in letter)) (sym e)
        ∙ sym (letter_own k i f.inside (record_in letter))

    ends : (first second : List ℕ) → Bytes letter → (d : Diff) → ShownAt digest (tree (map digest rs)) (letter_tree digest n letter) Agree d
        → Ends digest (ours digest rs bs i) (record_at rs i) (tree (map digest rs)) (letter_tree digest n letter) letter (record_in letter) first second
        (find_done d (differ (record_at rs i) (record_in letter)) first second)
    ends first second b agree s = elim (decided (record_at rs i) (record_in letter)) [
      | yes q ↦ rw (differ_same _ _ q) (ends_same (is_ours b s.1 ∙ ap (λ (r : List ℕ). our_letter digest (log_size rs) i r (node_in bs)) (sym q)))
      | no q ↦ rw (differ_other _ _ q) (ends_records (λ z. q (sym z)) (sym s.0))
    ]
    ends first second b (unequal x y) s =
        rw (splice_front x first, splice_front y second, s.0.first, s.0.second) (ends_pair x y s.0 s.1)

  -- an accepted letter is ours, or the finder gives two strings
  pub accepted_ends : EveryAcceptedEnds digest rs (log_root k) bs
  accepted_ends letter b i r a first second u v =
      let t = accepted_fits k a in
      rw (find_done_lem letter first second i t.1 t.0 u v, t.1, t.2)
      (ends letter t.0 first second b (first_difference digest (node_in bs) n letter) (bound letter t.0))

  -- of our letter the finder says "same"
  pub ours_same : EveryOursSame digest rs (log_root k) bs
  ours_same j p first second u v =
      let l = ours digest rs bs j in
      let e = ours_index k j p in
      let own : ℕ → Tree = λ x. fill (way n x) (digest (record_at rs x)) (own_items k x) in
      let t : letter_tree digest n l ≡ own (index_in l) = ours_tree k j p ∙ ap own (sym e) in
      let agreed : first_difference digest (node_in bs) n l ≡ agree =
      compared l (ours_fits k j p)
      ∙ ap (λ (x : Tree). difference (inputs digest x) (inputs digest (letter_tree digest n l))) (sym t)
      ∙ difference_none (inputs digest (letter_tree digest n l)) in
      find_done_lem l first second j (sym e) (ours_fits k j p) u v
      ∙ ap₂ (λ (d : Diff) (m : ℕ). find_done d m first second) agreed (differ_same _ _ (sym (ours_record k j p)))

  -- where it says "same", the bytes are ours of the record that it was given
  pub same_ours : EverySameOurs digest rs (log_root k) bs
  unfolding find_outcome
  same_ours rec letter b first second e =
      let c = (counts k).value in
      let g = find_same digest (node_in bs) (log_size rs) rec letter first second short e in
      let f : Fitting letter =
      pass_fits digest (log_size rs) n (log_root k) letter
      (rw (c, own_root_lem k) at (find_passed digest (node_in bs) (log_size rs) rec letter first second short g.0).checked) in
      let d : first_difference digest (node_in bs) n letter ≡ agree = rw c at g.1 in
      let a : Agree letter f = rw d at (bound letter f) in
      is_ours letter f b a.1
      ∙ ap (λ (r : List ℕ). our_letter digest (log_size rs) (index_in letter) r (node_in bs)) (sym (same_of_differ rec (record_in letter) g.2))
