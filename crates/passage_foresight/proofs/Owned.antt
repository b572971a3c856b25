-- The loop that holds each record to the leaf at its place, over any digest function and any nodes.
use mathlib.Core.Path.{◌≡◌, refl, sym, ap, ap₂, ◌∙◌}
use mathlib.Core.Logic.{◌≢◌}
use mathlib.Core.List.{List, [], ◌∷◌}
use Prim.Native.Nat.{ℕ, ◌+◌, ◌-◌, ◌≤◌, ◌<◌}
use lib.Dec.{T}
use lib.ListN.{length, get_or, take, drop, drop_of_length-le}
use Rattle.order.specs.Order.{first_number, ◌is_not◌, ◌if◌}
use Rattle.order.proofs.Laws.{numbered, first_is, first_none, first_next}
use Rattle.records.specs.Records.{cut}
use Rattle.records.proofs.Sums.{next_length}
use Rattle.letter.specs.Items.{foreign}
use Rattle.passage_foresight.specs.Order.{foreign_order}
use Rattle.passage_foresight.specs.Steps.{OneEach}
use Rattle.passage_foresight.proofs.Cutting.{Cutting, cutting_begin, cutting_next, cutting_cut}

module _ (digest : List ℕ → List ℕ) (node : ℕ → List ℕ) where
  -- its numbers are above 0
  pub foreign_numbered : (is : List ℕ) (rs : List (List ℕ)) → T (numbered (foreign_order digest node is rs))
  unfolding foreign_order
  foreign_numbered [] rs = tt
  foreign_numbered (i ∷ is) [] = tt
  foreign_numbered (i ∷ is) (r ∷ rs) = foreign_numbered is rs

  module _ (is whole ks : List ℕ) where
    abbrev number : List ℕ → List (List ℕ) → ℕ
    number js rs = first_number (foreign_order digest node js rs)

    pub record Owned (at i : ℕ) : Type 0 where
      pub place : Cutting is whole ks at i
      pub same : number (drop i is) (cut (drop i ks) (drop at whole)) ≡ number is (cut ks whole)

    pub owned_begin : OneEach is whole ks → Owned 0 0
    owned_begin e = record { place = cutting_begin is whole ks e; same = refl }

    module _ {at i : ℕ} (o : Owned at i) where
      module _ (p : i < length is) {end : ℕ} (e : end ≡ at + get_or ks i 0) where
        abbrev rec : List ℕ
        rec = take (end - at) (drop at whole)

        -- the next record, and the others
        here : first_number
            (13 if foreign digest node (get_or is i 0) rec is_not 0
            ∷ foreign_order digest node (drop (i + 1) is) (cut (drop (i + 1) ks) (drop end whole)))
            ≡ number is (cut ks whole)
        unfolding foreign_order
        here = sym (ap₂ number (next_length is i p) (cutting_cut is whole ks o.place p e)) ∙ o.same

        module _ {k : ℕ} (f : k ≡ foreign digest node (get_or is i 0) rec) where
          pub owned_other : k ≢ 0 → 13 ≡ number is (cut ks whole)
          owned_other h = first_is 13 _ (λ z. absurd (h (f ∙ z))) ∙ here

          -- one record more
          pub owned_next : k ≡ 0 → Owned end (i + 1)
          owned_next z =
              let later = foreign_order digest node (drop (i + 1) is) (cut (drop (i + 1) ks) (drop end whole)) in
              record {
                place = cutting_next is whole ks o.place p e;
                same = sym (first_next 13 (foreign digest node (get_or is i 0) rec is_not 0) later (sym f ∙ z)) ∙ here;
              }

      -- the end
      pub owned_end : length is ≤ i → 0 ≡ number is (cut ks whole)
      unfolding foreign_order
      owned_end p =
          first_none [] tt ∙ ap (λ (x : List ℕ). number x (cut (drop i ks) (drop at whole))) (sym (drop_of_length-le is {i = i} p)) ∙ o.same
