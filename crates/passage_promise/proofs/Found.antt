-- What the finder finds in a log's own nodes, over any digest function: of accepted bytes, of our letter, and where it says "same".
use mathlib.Core.Path.{◌≡◌, refl, sym, ap, ap₂, ◌∙◌}
use mathlib.Core.List.{List, [], ◌∷◌, map}
use Prim.Native.Nat.{ℕ, suc, ◌*◌, ◌≤◌}
use native.Mathlib.Omega.{arith}
use lib.ListN.{length, length-map}
use Rattle.order.specs.Order.{Test, ◌under◌}
use Rattle.order.proofs.Laws.{Passes, passes}
use Rattle.wire.specs.Numbers.{Bytes}
use Rattle.wire.specs.Slices.{joined}
use Rattle.wire.proofs.Each.{each_map}
use Rattle.wire.proofs.Splices.{splice_front}
use Rattle.records.specs.Records.{cut}
use Rattle.records.proofs.Cuts.{joined_cut, joined_total, cut_count}
use Rattle.shape.specs.Tree.{Tree, inputs}
use Rattle.shape.specs.Folded.{tree}
use Rattle.shape.specs.Positions.{peaks, fold}
use Rattle.shape.specs.Sizes.{leaves}
use Rattle.shape.specs.Difference.{Diff, agree, unequal, difference, ShownAt}
use Rattle.nodes.specs.Nodes.{node_in}
use Rattle.evidence_log.specs.Outcome.{root_order}
use Rattle.views.specs.Passage.{Rising, passage}
use Rattle.views.specs.Shows.{seen_by}
use Rattle.views.proofs.Passing.{passage_sound, passage_same, passage_log}
use Rattle.difference.specs.Outcome.{room_order}
use Rattle.findings.specs.Outcome.{NamedOutcome, named_refused, named_done, Apart, nowhere, from, first_apart}
use Rattle.findings.proofs.Places.{apart_same, apart_nowhere, apart_from}
use Rattle.letter_promise.specs.Terms.{log_size}
use Rattle.passage.specs.Bytes.{passage_bytes, indexes_in, records_in, digests_in}
use Rattle.passage.specs.Request.{Request}
use Rattle.passage.specs.Digests.{digest_count, letter_tree, worked_root}
use Rattle.passage.specs.Checking.{from7}
use Rattle.passage_writer.specs.Outcome.{our_passage}
use Rattle.passage_finder.specs.Outcome.{first_difference, records_order, own_order, find_order, find_over, find_outcome}
use Rattle.passage_finder.proofs.Stages.{find_pass, find_passed, find_same}
use Rattle.passage_promise.specs.Terms.{records_at, Ends, ends_same, ends_records, ends_pair}
use Rattle.passage_promise.specs.Promise.{ours, EveryAcceptedEnds, EveryOursSame, EverySameOurs}
use Rattle.passage_fields.proofs.Fits.{fields_whole}
use Rattle.passage_promise.proofs.Read.{record_each, digests_many, digests_32}
use Rattle.letter_promise.proofs.Kept.{Kept, log_root, counts, own_root_lem, record_short, not_foreign}
use Rattle.passage_promise.proofs.Ours.{own_digests, own_many, count_own, letter_own, ours_indexes, ours_records, ours_tree, ours_passed}
use Rattle.passage_promise.proofs.Checked.{Passed, pass_passed, passed_pass, passed_request, accepted_checks}
use Rattle.passage_promise.proofs.Owned.{Owned, owned_pass, pass_owned}
use Rattle.passage_promise.proofs.Named.{collided}

module _ {digest : List ℕ → List ℕ} {rs : List (List ℕ)} {bs : List ℕ} (k : Kept digest rs bs) where
  abbrev n : ℕ
  n = length rs

  abbrev Fitting : List ℕ → Type 0
  Fitting letter = Passed digest (log_size rs) n (log_root k) letter

  -- the test of number 4
  abbrev short : Test
  short = length bs under 32 * log_size rs

  -- 3 and 13 for none of the log's own records
  records_pass : (p : ℕ) (is : List ℕ) → Rising p n is → Passes (records_order digest (node_in bs) is (records_at rs is))
  unfolding records_order
  records_pass p [] q = tt
  records_pass p (i ∷ is) q = (record_short k i q.1, (not_foreign k i q.1, records_pass (suc i) is q.2))

  -- the letter's side of the comparison, and what it shows
  module _ (letter : List ℕ) (f : Fitting letter) where
    abbrev is : List ℕ
    is = indexes_in letter

    abbrev own : List (List ℕ)
    own = records_at rs is

    abbrev theirs : List (List ℕ)
    theirs = records_in letter

    abbrev xs : List (List ℕ)
    xs = digests_in (digest_count n is) letter

    asked : Request n is
    asked = passed_request digest (log_size rs) n (log_root k) letter f

    -- with the log's own records no refusal applies to a letter that passes
    owned : Owned digest (node_in bs) n is (joined own) (map length own)
    owned =
        record {
          one_each = length-map own length ∙ own_many k is asked;
          adds_up = joined_total own;
          own_leaves = rw (joined_cut own) (records_pass 0 is asked.rising);
          sound = passage_sound digest rs is k.log.some asked.rising (node_in bs) k.holds;
        }

    find_done_lem : (first second : List ℕ) → 64 ≤ length first → 64 ≤ length second
        → find_outcome digest (log_size rs) bs (joined own) (map length own) letter first second
        ≡ named_done (first_difference digest (node_in bs) n letter) (first_apart is own theirs) first second
    unfolding find_outcome find_over root_order room_order
    find_done_lem first second u v =
        let c = counts k in
        let m = leaves (log_size rs) in
        let checking : Passes (from7 digest (log_size rs) m (fold digest (node_in bs) (peaks m)) letter) =
        rw (c.value, own_root_lem k) (passed_pass digest (log_size rs) n (log_root k) letter f) in
        let owning : Passes (own_order digest (node_in bs) m is (joined own) (map length own)) =
        rw c.value (owned_pass digest (node_in bs) n is (joined own) (map length own) owned) in
        let done : ℕ → List (List ℕ) → NamedOutcome =
        λ l ts. named_done (first_difference digest (node_in bs) l letter) (first_apart is ts theirs) first second in
        sym (passes (named_refused first second) (find_order digest (node_in bs) short (log_size rs) (joined own) (map length own) letter first second)
        (done m (cut (map length own) (joined own))) (ap₂ done (sym c.value) (sym (joined_cut own)))
        (find_pass digest (node_in bs) (log_size rs) (joined own) (map length own) letter first second short
        ((λ z. omega (arith, c.number)), ((λ z. omega (arith, c.value, k.log.some)), (k.room, tt))) checking owning (u, (v, tt))))

    -- the log's leaves and digests are the letter's
    abbrev Agree : Type 0
    Agree = (map digest own ≡ map digest theirs) × (own_digests k is ≡ xs)

    bound : ShownAt digest (tree (map digest rs)) (letter_tree digest n letter) Agree (first_difference digest (node_in bs) n letter)
    unfolding worked_root
    bound =
        passage_log digest rs is k.log.some asked.rising (node_in bs) k.holds k.digest_32 (map digest theirs) xs
        (length-map theirs digest ∙ record_each letter)
        (digests_many letter (digest_count n is) ∙ count_own k is asked)
        (each_map 32 digest k.digest_32 theirs) (digests_32 letter (digest_count n is)) f.rooted

    -- where the digests agree, the letter is ours of its records
    is_ours : Bytes letter → own_digests k is ≡ xs → letter ≡ our_passage digest (log_size rs) is theirs (node_in bs)
    is_ours b e =
        fields_whole (log_size rs) n letter b f.fields
        ∙ ap (passage_bytes (log_size rs) is theirs) (sym e)
        ∙ sym (letter_own k is asked theirs)

    ends : (first second : List ℕ) → Bytes letter → (d : Diff) → ShownAt digest (tree (map digest rs)) (letter_tree digest n letter) Agree d
        → (a : Apart) → first_apart is own theirs ≡ a
        → Ends digest (ours digest rs bs is) own (tree (map digest rs)) (letter_tree digest n letter) letter is theirs first second
        (named_done d a first second)
    ends first second b agree s nowhere e =
        let q = apart_nowhere is own theirs (own_many k is asked) (record_each letter) e in
        ends_same (is_ours b s.1 ∙ ap (λ (ts : List (List ℕ)). our_passage digest (log_size rs) is ts (node_in bs)) (sym q))
    ends first second b agree s (from i) e = ends_records i (collided digest is own theirs i s.0 (apart_from i is own theirs e))
    ends first second b (unequal x y) s a e =
        rw (splice_front x first, splice_front y second, s.0.first, s.0.second) (ends_pair x y s.0 s.1)

  -- accepted bytes are ours, or the finder gives two strings
  pub accepted_ends : EveryAcceptedEnds digest rs (log_root k) bs
  accepted_ends letter b z first second u v =
      let f : Fitting letter = rw (counts k).value at (accepted_checks digest (log_size rs) (log_root k) letter z).passed in
      rw (find_done_lem letter f first second u v)
      (ends letter f first second b (first_difference digest (node_in bs) n letter) (bound letter f)
      (first_apart (indexes_in letter) (records_at rs (indexes_in letter)) (records_in letter)) refl)

  -- of our letter the finder says "same"
  pub ours_same : EveryOursSame digest rs (log_root k) bs
  ours_same is q first second u v =
      let l = ours digest rs bs is in
      let f = ours_passed k is q in
      let e = ours_indexes k is q in
      let agreed : first_difference digest (node_in bs) n l ≡ agree =
      ap₂ (λ (js : List ℕ) (t : Tree). difference (seen_by digest (node_in bs) (passage n js) n 0) (inputs digest t)) e (ours_tree k is q)
      ∙ passage_same digest rs is k.log.some q.rising (node_in bs) k.holds in
      let same : first_apart (indexes_in l) (records_at rs (indexes_in l)) (records_in l) ≡ nowhere =
      ap₂ (λ (js : List ℕ) (ts : List (List ℕ)). first_apart js (records_at rs js) ts) e (ours_records k is q) ∙ apart_same is (records_at rs is) in
      ap (λ (js : List ℕ). find_outcome digest (log_size rs) bs (joined (records_at rs js)) (map length (records_at rs js)) l first second) (sym e)
      ∙ find_done_lem l f first second u v
      ∙ ap₂ (λ (d : Diff) (a : Apart). named_done d a first second) agreed same

  -- where it says "same", the bytes are ours of the records that it was given
  pub same_ours : EverySameOurs digest rs (log_root k) bs
  unfolding find_outcome
  same_ours records lengths letter b first second e =
      let c = (counts k).value in
      let g = find_same digest (node_in bs) (log_size rs) records lengths letter first second short e in
      let parts = find_passed digest (node_in bs) (log_size rs) records lengths letter first second short g.0 in
      let f : Fitting letter = pass_passed digest (log_size rs) n (log_root k) letter (rw (c, own_root_lem k) at parts.checked) in
      let d : first_difference digest (node_in bs) n letter ≡ agree = rw c at g.1 in
      let a : Agree letter f = rw d at (bound letter f) in
      let o = pass_owned digest (node_in bs) (leaves (log_size rs)) (indexes_in letter) records lengths parts.owned in
      let m = cut_count lengths records ∙ o.one_each in
      is_ours letter f b a.1
      ∙ ap (λ (ts : List (List ℕ)). our_passage digest (log_size rs) (indexes_in letter) ts (node_in bs))
      (sym (apart_nowhere (indexes_in letter) (cut lengths records) (records_in letter) m (record_each letter) g.2))
