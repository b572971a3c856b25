-- Number 15 is struck: the test for it applied to no input, and nothing is answered with it.
use mathlib.Core.Logic.{◌≢◌}
use mathlib.Core.Path.{◌≡◌, refl, sym, ◌∙◌}
use mathlib.Core.List.{List}
use Prim.Native.Nat.{ℕ, ◌≤◌}
use native.Mathlib.Omega.{arith}
use lib.Dec.{T}
use lib.ListN.{take, drop}
use Rattle.order.specs.Order.{Refusal, verdict}
use Rattle.order.proofs.Laws.{verdict_idle, lacks, never, number_is}
use Rattle.wire.specs.Slices.{differ}
use Rattle.wire.specs.Writers.{WriteOutcome, write_refused, write_done}
use Rattle.shape.specs.Sizes.{count_answer, leaves}
use Rattle.shape.proofs.Counting.{counts_known}
use Rattle.evidence_log.specs.Outcome.{root_order}
use Rattle.difference.specs.Outcome.{FindOutcome, find_refused, find_done, room_order}
use Rattle.difference.proofs.Settled.{done_zero}
use Rattle.letter.specs.Bytes.{index_in, record_in}
use Rattle.letter.specs.Items.{item_count}
use Rattle.letter.specs.Checking.{behind_order, fields_order, from7}
use Rattle.letter.proofs.ItemsOf.{count_at_most}
use Rattle.letter_writer.specs.Outcome.{our_letter, write_order, write_over}
use Rattle.letter_checker.specs.Outcome.{CheckOutcome, check_refused, check_done, check_order, check_outcome}
use Rattle.letter_finder.specs.Outcome.{first_difference, own_order, find_order, find_over}
use Rattle.letter_promise.specs.Struck.{write_with15, from7_with15, check_with15, find_with15, WriteStruck, CheckStruck, FindStruck}

-- where 1 does not apply, no index needs more than 32 items
few : (size i : ℕ) → ((count_answer size).number ≡ 1 → ⊥) → item_count (leaves size) i ≤ 32
few size i known = count_at_most (leaves size) i (counts_known size known).most

-- an order without 15 answers it to nothing
module _ {X : Type 0} (number : X → ℕ) (refused : ℕ → X) (order : List Refusal) (done : X) (is : (n : ℕ) → number (refused n) ≡ n)
    (zero : number done ≡ 0) where
  not_15 : T (lacks 15 order) → number (verdict refused order done) ≢ 15
  not_15 h e = never 15 order h (λ z. omega arith) (sym (number_is number refused order done is zero refl) ∙ e)

module _ (digest : List ℕ → List ℕ) where
  pub write_struck : WriteStruck digest
  unfolding write_over write_order write_with15
  write_struck node short size index rec out =
      let R = write_refused out in
      let order = write_order digest node short size index rec out in
      let done = write_done (our_letter digest size index rec node) out in (
        verdict_idle R (take 4 order) 15 _ (drop 4 order) done (λ p. omega (arith, few size index p.0)),
        not_15 (λ (o : WriteOutcome). o.number) R order done (λ n. refl) refl tt,
      )

  pub check_struck : CheckStruck digest
  unfolding check_outcome check_order from7 fields_order behind_order check_with15 from7_with15
  check_struck size root letter =
      let order = check_order digest size root letter in
      let done = check_done letter in (
        verdict_idle check_refused (take 5 order) 15 _ (drop 5 order) done (λ p. omega (arith, few size (index_in letter) p.0)),
        not_15 (λ (o : CheckOutcome). o.number) check_refused order done (λ n. refl) refl tt,
      )

  pub find_struck : FindStruck digest
  unfolding find_over find_order root_order from7 fields_order behind_order own_order room_order find_with15 from7_with15
  find_struck node short size rec letter first second =
      let R = find_refused first second in
      let order = find_order digest node short size rec letter first second in
      let found = first_difference digest node (leaves size) letter in
      let done = find_done found (differ rec (record_in letter)) first second in (
        verdict_idle R (take 6 order) 15 _ (drop 6 order) done (λ p. omega (arith, few size (index_in letter) p.0)),
        not_15 (λ (o : FindOutcome). o.number) R order done (λ n. refl) (done_zero found _ first second) tt,
      )
