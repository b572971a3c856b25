-- Whatever nodes and record it was given, a log's or not: two strings that the finder names have one digest. Over any digest function, any nodes of
-- 32 bytes and any test of number 4.
use mathlib.Core.Path.{◌≡◌, refl, sym, ap, subst, ◌∙◌}
use mathlib.Core.List.{List}
use Prim.Native.Nat.{ℕ, ◌^◌, ◌≤◌}
use native.Mathlib.Decide.{ℕ_discrete}
use native.Mathlib.Omega.{arith}
use lib.ListN.{length}
use Rattle.order.specs.Order.{Test, Refusal}
use Rattle.order.proofs.Laws.{Passes, accepted, refusal}
use Rattle.wire.specs.Slices.{differ}
use Rattle.wire.proofs.Differences.{differ_same, differ_other, same_of_differ}
use Rattle.wire.proofs.Splices.{splice_front}
use Rattle.shape.specs.Answers.{Answer}
use Rattle.shape.specs.Sizes.{size_of, position_answer, count_answer, leaves}
use Rattle.shape.specs.Difference.{decided, Diff, agree, unequal, Shown}
use Rattle.shape.specs.Seen.{broken}
use Rattle.shape.proofs.Sizes.{position_answer_lem}
use Rattle.shape.proofs.Beside.{nodes_bind}
use Rattle.shape.proofs.Counting.{counts_known}
use Rattle.evidence_log.specs.Outcome.{root_order}
use Rattle.letter.specs.Bytes.{index_in, record_in, items_in}
use Rattle.letter.specs.Items.{item_count, foreign, worked_root}
use Rattle.letter.proofs.Fits.{Fits, pass_fits}
use Rattle.letter.proofs.Spelling.{items_length, items_32}
use Rattle.difference.specs.Outcome.{FindOutcome, find_refused, find_done}
use Rattle.difference.proofs.Settled.{done_zero}
use Rattle.letter_finder.specs.Outcome.{own_root, first_difference, own_order, find_order, find_over}
use Rattle.letter_finder.proofs.Stages.{PassedParts, find_numbered, find_passed}
use Rattle.letter_promise.specs.Promise.{Named, named_none, named_same, named_records, named_pair}

module _ (digest : List ℕ → List ℕ) (digest_32 : (x : List ℕ) → length (digest x) ≡ 32)
    (node : ℕ → List ℕ) (node-32 : (p : ℕ) → length (node p) ≡ 32) (short : Test) (size : ℕ) (rec letter first second : List ℕ) where
  abbrev n : ℕ
  n = leaves size

  abbrev i : ℕ
  i = index_in letter

  abbrev order : List Refusal
  order = find_order digest node short size rec letter first second

  module _ (p : Passes order) where
    parts : PassedParts digest node size rec letter first second short
    parts = find_passed digest node size rec letter first second short p

    fitting : Fits digest size n (own_root digest node n) letter
    fitting = pass_fits digest size n (own_root digest node n) letter parts.checked

    own_facts : (foreign digest node i rec ≡ 0) × (broken digest node n i ≡ 0)
    unfolding own_order
    own_facts = let q = parts.owned in (q.1.0, q.1.1.0)

    counted : (count_answer size).number ≡ 1 → ⊥
    unfolding root_order
    counted = parts.rooted.0

    few : n ≤ 2 ^ 32
    few = (counts_known size counted).most

    own_leaf : digest rec ≡ node (size_of i)
    unfolding foreign
    own_leaf =
        let e : (position_answer i).value ≡ size_of i = ap (λ (a : Answer). a.value) (position_answer_lem i (omega (arith, fitting.inside, few))) in
        same_of_differ _ _ own_facts.0 ∙ ap node e

    bound : Shown digest (node (size_of i) ≡ digest (record_in letter)) (first_difference digest node n letter)
    unfolding item_count worked_root
    bound =
        nodes_bind digest digest_32 node node-32 (digest (record_in letter)) (digest_32 _) n i (items_in (item_count n i) letter)
        fitting.inside (items_length (item_count n i) letter) (items_32 (item_count n i) letter) fitting.rooted own_facts.1

    done_named : (d : Diff) → Shown digest (node (size_of i) ≡ digest (record_in letter)) d
        → Named digest rec letter first second (find_done d (differ rec (record_in letter)) first second)
    done_named agree s = elim (decided rec (record_in letter)) [
      | yes q ↦ rw (differ_same _ _ q) (named_same q)
      | no q ↦ rw (differ_other _ _ q) (named_records q (own_leaf ∙ s))
    ]
    done_named (unequal a b) s = rw (splice_front a first, splice_front b second, s.first, s.second) (named_pair a b s)

  -- whatever it was given
  pub named_found : Named digest rec letter first second (find_over digest node short size rec letter first second)
  unfolding find_over
  named_found =
      let number : FindOutcome → ℕ = λ o. o.number in
      let outcome = find_over digest node short size rec letter first second in
      let done = find_done (first_difference digest node n letter) (differ rec (record_in letter)) first second in
      let z : number done ≡ 0 = done_zero (first_difference digest node n letter) _ first second in
      elim (ℕ_discrete (number outcome) 0) [
        | yes h ↦
            let o = accepted number (find_refused first second) order done (λ m. refl) z {r = outcome} refl
            (find_numbered digest node size rec letter first second short) h in
            subst (Named digest rec letter first second) (sym o.1) (done_named o.0 (first_difference digest node n letter) (bound o.0))
        | no h ↦
            let r = refusal number (find_refused first second) order done (λ m. refl) z {r = outcome} refl h in
            subst (Named digest rec letter first second) (sym r) (named_none (number outcome) h)
      ]
