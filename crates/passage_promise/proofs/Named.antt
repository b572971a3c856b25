-- Whatever nodes and records it was given, a log's or not: what the finder names does collide. Over any digest function, any nodes of 32 bytes and
-- any test of number 4.
use mathlib.Core.Path.{◌≡◌, refl, sym, ap, ap₂, subst, ◌∙◌}
use mathlib.Core.List.{List, [], ◌∷◌, map}
use Prim.Native.Nat.{ℕ, suc, ◌^◌, ◌≤◌, ◌<◌}
use native.Mathlib.Decide.{ℕ_discrete}
use native.Mathlib.Omega.{arith}
use lib.ListN.{length, length-map, get_or, get_or-map}
use Rattle.order.specs.Order.{Test, Refusal}
use Rattle.order.proofs.Laws.{Passes, accepted, refusal}
use Rattle.wire.proofs.Differences.{same_of_differ}
use Rattle.wire.proofs.Each.{each_map}
use Rattle.wire.proofs.Splices.{splice_front}
use Rattle.records.specs.Records.{cut}
use Rattle.records.proofs.Cuts.{cut_count}
use Rattle.shape.specs.Answers.{Answer}
use Rattle.shape.specs.Sizes.{size_of, position_answer, leaves}
use Rattle.shape.specs.Positions.{peaks, fold}
use Rattle.shape.specs.Difference.{Diff, agree, unequal, Shown}
use Rattle.shape.proofs.Sizes.{position_answer_lem}
use Rattle.shape.proofs.Counting.{counts_known}
use Rattle.evidence_log.specs.Outcome.{root_order}
use Rattle.views.specs.Passage.{Rising, passage}
use Rattle.views.specs.Shows.{on_top, gives_by}
use Rattle.views.proofs.Passing.{passage_bind}
use Rattle.letter.specs.Items.{foreign}
use Rattle.findings.specs.Outcome.{NamedOutcome, named_refused, named_done, Apart, nowhere, from, first_apart}
use Rattle.findings.proofs.Settled.{done_zero}
use Rattle.findings.proofs.Places.{ApartAt, apart_nowhere, apart_from}
use Rattle.passage.specs.Bytes.{indexes_in, records_in, digests_in}
use Rattle.passage.specs.Digests.{digest_count, worked_root}
use Rattle.passage.specs.Request.{Request}
use Rattle.passage.proofs.Digests.{count_is}
use Rattle.passage_finder.specs.Outcome.{first_difference, records_order, records_apart, find_order, find_over}
use Rattle.passage_finder.proofs.Stages.{PassedParts, find_numbered, find_passed}
use Rattle.passage_promise.specs.Terms.{Collide}
use Rattle.passage_promise.specs.Promise.{Named, named_none, named_same, named_records, named_pair}
use Rattle.passage_promise.proofs.Read.{record_each, digests_many, digests_32}
use Rattle.passage_promise.proofs.Checked.{Passed, pass_passed, passed_request}
use Rattle.passage_promise.proofs.Owned.{Owned, pass_owned}

-- two records that differ, of lists with the same digests
pub collided : (digest : List ℕ → List ℕ) (is : List ℕ) (ours theirs : List (List ℕ)) (i : ℕ) → map digest ours ≡ map digest theirs
    → ApartAt i is ours theirs → Collide digest is ours theirs i
collided digest is ours theirs i e a =
    record {
      place = a.place;
      inside = a.within.0;
      index = a.index;
      apart = a.other;
      one =
          sym (get_or-map digest ours a.place []) ∙ ap (λ (l : List (List ℕ)). get_or l a.place (digest [])) e
          ∙ get_or-map digest theirs a.place [];
      before = a.before;
    }

-- records of which none is refused with 13 are the leaves at their places
leaves_given : (digest : List ℕ → List ℕ) (node : ℕ → List ℕ) (n p : ℕ) (is : List ℕ) (rs : List (List ℕ)) → n ≤ 2 ^ 32 → Rising p n is
    → length rs ≡ length is → Passes (records_order digest node is rs) → map (λ i. node (size_of i)) is ≡ map digest rs
unfolding records_order foreign
leaves_given digest node n p [] [] few q m h = refl
leaves_given digest node n p [] (r ∷ rs) few q m h = absurd (omega arith)
leaves_given digest node n p (i ∷ is) [] few q m h = absurd (omega arith)
leaves_given digest node n p (i ∷ is) (r ∷ rs) few q m h =
    let e : (position_answer i).value ≡ size_of i = ap (λ (a : Answer). a.value) (position_answer_lem i (omega (arith, q.1))) in
    ap₂ (λ (x : List ℕ) (xs : List (List ℕ)). x ∷ xs) (sym (same_of_differ _ _ h.1.0 ∙ ap node e))
    (leaves_given digest node n (suc i) is rs few q.2 (omega arith) h.1.1)

module _ (digest : List ℕ → List ℕ) (digest_32 : (x : List ℕ) → length (digest x) ≡ 32)
    (node : ℕ → List ℕ) (node-32 : (p : ℕ) → length (node p) ≡ 32) (short : Test) (size : ℕ) (records lengths letter first second : List ℕ) where
  abbrev n : ℕ
  n = leaves size

  abbrev is : List ℕ
  is = indexes_in letter

  abbrev given : List (List ℕ)
  given = cut lengths records

  abbrev xs : List (List ℕ)
  xs = digests_in (digest_count n is) letter

  abbrev order : List Refusal
  order = find_order digest node short size records lengths letter first second

  module _ (p : Passes order) where
    parts : PassedParts digest node size records lengths letter first second short
    parts = find_passed digest node size records lengths letter first second short p

    passed : Passed digest size n (fold digest node (peaks n)) letter
    passed = pass_passed digest size n (fold digest node (peaks n)) letter parts.checked

    owned : Owned digest node n is records lengths
    owned = pass_owned digest node n is records lengths parts.owned

    asked : Request n is
    asked = passed_request digest size n (fold digest node (peaks n)) letter passed

    numbers : (0 < n) × (n ≤ 2 ^ 32)
    unfolding root_order
    numbers = let r = parts.rooted in (omega (arith, r.1.0), (counts_known size r.0).most)

    given_many : length given ≡ length is
    given_many = cut_count lengths records ∙ owned.one_each

    leaves_are : map (λ i. node (size_of i)) is ≡ map digest given
    leaves_are = leaves_given digest node n 0 is given numbers.1 asked.rising given_many owned.own_leaves

    bound : Shown digest ((map (λ i. node (size_of i)) is ≡ map digest (records_in letter)) × (gives_by digest node (passage n is) n 0 ≡ xs))
        (first_difference digest node n letter)
    unfolding worked_root on_top peaks
    bound =
        passage_bind digest digest_32 node node-32 n is numbers.0 asked.rising (map digest (records_in letter)) xs
        (length-map (records_in letter) digest ∙ record_each letter)
        (digests_many letter (digest_count n is) ∙ count_is n is numbers.0 numbers.1 asked.few)
        (each_map 32 digest digest_32 (records_in letter)) (digests_32 letter (digest_count n is)) owned.sound passed.rooted

    done_named : (d : Diff)
        → Shown digest ((map (λ i. node (size_of i)) is ≡ map digest (records_in letter)) × (gives_by digest node (passage n is) n 0 ≡ xs)) d
        → (a : Apart) → first_apart is given (records_in letter) ≡ a → Named digest given letter first second (named_done d a first second)
    done_named agree s nowhere e = named_same (apart_nowhere is given (records_in letter) given_many (record_each letter) e)
    done_named agree s (from i) e =
        named_records i (collided digest is given (records_in letter) i (sym leaves_are ∙ s.0) (apart_from i is given (records_in letter) e))
    done_named (unequal a b) s c e = rw (splice_front a first, splice_front b second, s.first, s.second) (named_pair a b s)

  -- whatever it was given
  pub named_found : Named digest given letter first second (find_over digest node short size records lengths letter first second)
  unfolding find_over
  named_found =
      let number : NamedOutcome → ℕ = λ o. o.number in
      let outcome = find_over digest node short size records lengths letter first second in
      let apart = records_apart records lengths letter in
      let done = named_done (first_difference digest node n letter) apart first second in
      let z : number done ≡ 0 = done_zero (first_difference digest node n letter) apart first second in
      elim (ℕ_discrete (number outcome) 0) [
        | yes h ↦
            let o = accepted number (named_refused first second) order done (λ m. refl) z {r = outcome} refl
            (find_numbered digest node size records lengths letter first second short) h in
            subst (Named digest given letter first second) (sym o.1)
            (done_named o.0 (first_difference digest node n letter) (bound o.0) apart refl)
        | no h ↦
            let r = refusal number (named_refused first second) order done (λ m. refl) z {r = outcome} refl h in
            subst (Named digest given letter first second) (sym r) (named_none (number outcome) h)
      ]
