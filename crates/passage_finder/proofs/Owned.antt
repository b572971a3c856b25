-- What is known of the log's own records as a part of the finder's order: they refuse as it does, or none refuses.
use mathlib.Core.Path.{◌≡◌, refl, ap}
use mathlib.Core.List.{List, [], ◌∷◌, map}
use Prim.Native.Nat.{ℕ, ◌<◌}
use native.Mathlib.Omega.{arith}
use lib.Dec.{T}
use lib.ListN.{length}
use Rattle.order.specs.Order.{Refusal, ◌if◌, ◌is_not◌, verdict, first_number}
use Rattle.order.proofs.Laws.{Passes, numbered, number_is, accepted, early, late, numbered_append}
use Rattle.records.specs.Records.{total, cut}
use Rattle.views.specs.Passage.{passage}
use Rattle.views.specs.Shows.{broken_by}
use Rattle.findings.specs.Outcome.{Apart, first_apart}
use Rattle.passage.specs.Bytes.{record_at}
use Rattle.passage_finder.specs.Outcome.{records_order, own_order}
use Rattle.passage_finder.specs.Steps.{OwnOutcome, own_refused, own_done, own_outcome}

module _ (digest : List ℕ → List ℕ) (node : ℕ → List ℕ) where
  -- every number is above 0
  records_numbered : (is : List ℕ) (rs : List (List ℕ)) → T (numbered (records_order digest node is rs))
  unfolding records_order
  records_numbered [] rs = tt
  records_numbered (i ∷ is) [] = tt
  records_numbered (i ∷ is) (r ∷ rs) = records_numbered is rs

  pub own_numbered : (n : ℕ) (is records lengths : List ℕ) → T (numbered (own_order digest node n is records lengths))
  unfolding own_order
  own_numbered n is records lengths =
      numbered_append (records_order digest node is (cut lengths records)) _ (records_numbered is (cut lengths records)) tt

  module _ (is records lengths : List ℕ) where
    -- the order but for 14
    abbrev owned_order : List Refusal
    owned_order =
        16 if length lengths is_not length is
        ∷ 16 if total lengths is_not length records
        ∷ records_order digest node is (cut lengths records)

    abbrev broken_order : ℕ → List Refusal
    broken_order n = 14 if broken_by digest node (passage n is) n 0 is_not 0 ∷ []

    module _ (places letter : List ℕ) where
      abbrev apart : Apart
      apart = first_apart is (cut lengths records) (map (record_at letter) places)

      -- a refusal
      pub owned_refused : {X : Type 0} (refused : ℕ → X) (n : ℕ) (done : X) {k : ℕ} → 0 < k
          → own_refused k ≡ own_outcome digest node is places records lengths letter
          → refused k ≡ verdict refused (own_order digest node n is records lengths) done
      unfolding own_order own_outcome
      owned_refused refused n done {k} h e =
          let m : k ≡ first_number owned_order =
          number_is (λ (x : OwnOutcome). x.number) own_refused owned_order (own_done apart) (λ m. refl) refl e in
          early refused owned_order (broken_order n) done (ap refused m) (λ z. omega arith)

      -- none refuses
      module _ {a : Apart} (e : own_done a ≡ own_outcome digest node is places records lengths letter) where
        clear_off : Passes owned_order × (own_done a ≡ own_done apart)
        unfolding own_outcome
        clear_off =
            accepted (λ (x : OwnOutcome). x.number) own_refused owned_order (own_done apart) (λ m. refl) refl e
            (records_numbered is (cut lengths records)) refl

        pub owned_apart : a ≡ apart
        owned_apart = ap (λ (x : OwnOutcome). x.apart) clear_off.1

        pub owned_passed : {X : Type 0} (refused : ℕ → X) (n : ℕ) (done : X) {x : X} → x ≡ verdict refused (broken_order n) done
            → x ≡ verdict refused (own_order digest node n is records lengths) done
        unfolding own_order
        owned_passed refused n done f = late refused owned_order (broken_order n) done clear_off.0 f
