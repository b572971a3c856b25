-- The loop over indexes and lengths that tests the limits.
use mathlib.Core.Path.{◌≡◌, refl, sym, ap₂, ◌∙◌}
use mathlib.Core.List.{List, [], ◌∷◌}
use Prim.Native.Nat.{ℕ, ◌+◌, ◌*◌, ◌≤◌, ◌<◌}
use native.Mathlib.Omega.{arith}
use lib.Dec.{T}
use lib.ListN.{length, get_or, drop, drop_of_length-le}
use Rattle.order.specs.Order.{first_number, ◌not_below◌, ◌above◌, ◌if◌}
use Rattle.order.proofs.Laws.{Passes, numbered, first_is, first_none, first_next}
use Rattle.records.specs.Records.{total}
use Rattle.records.proofs.Sums.{next_length, total_none, total_cons}
use Rattle.passage_foresight.specs.Order.{limits_order}

-- its numbers are above 0
pub limits_numbered : (n : ℕ) (is ks : List ℕ) → T (numbered (limits_order n is ks))
unfolding limits_order
limits_numbered n [] ks = tt
limits_numbered n (i ∷ is) [] = tt
limits_numbered n (i ∷ is) (k ∷ ks) = limits_numbered n is ks

-- where none applies, no record has more than 16,384 bytes
pub limits_total : (n : ℕ) (is ks : List ℕ) → length ks ≡ length is → Passes (limits_order n is ks) → total ks ≤ 16384 * length is
unfolding limits_order
limits_total n [] [] e p = omega (arith, total_none)
limits_total n [] (k ∷ ks) e p = absurd (omega arith)
limits_total n (i ∷ is) [] e p = absurd (omega arith)
limits_total n (i ∷ is) (k ∷ ks) e p = omega (arith, total_cons k ks, p.1.0, limits_total n is ks (omega arith) p.1.1)

module _ (n : ℕ) (is ks : List ℕ) where
  pub record Limits (i : ℕ) : Type 0 where
    pub as_many : length ks ≡ length is
    pub same : first_number (limits_order n (drop i is) (drop i ks)) ≡ first_number (limits_order n is ks)

  pub limits_begin : length ks ≡ length is → Limits 0
  limits_begin e = record { as_many = e; same = refl }

  module _ {i : ℕ} (l : Limits i) where
    module _ (p : i < length is) where
      -- the next record, and the others
      here : first_number (5 if get_or is i 0 not_below n ∷ 3 if get_or ks i 0 above 16384 ∷ limits_order n (drop (i + 1) is) (drop (i + 1) ks))
          ≡ first_number (limits_order n is ks)
      unfolding limits_order
      here =
          sym (ap₂ (λ (x y : List ℕ). first_number (limits_order n x y)) (next_length is i p) (next_length ks i (omega (arith, l.as_many)))) ∙ l.same

      pub limits_index : n ≤ get_or is i 0 → 5 ≡ first_number (limits_order n is ks)
      limits_index h = first_is 5 _ (λ q. absurd (omega arith)) ∙ here

      module _ (inside : get_or is i 0 < n) where
        pub limits_length : 16384 < get_or ks i 0 → 3 ≡ first_number (limits_order n is ks)
        limits_length h = first_is 3 _ (inside, λ q. absurd (omega arith)) ∙ here

        -- one record more
        pub limits_next : get_or ks i 0 ≤ 16384 → Limits (i + 1)
        limits_next h =
            let later = limits_order n (drop (i + 1) is) (drop (i + 1) ks) in
            record {
              as_many = l.as_many;
              same =
                  sym (first_next 3 (get_or ks i 0 above 16384) later h)
                  ∙ sym (first_next 5 (get_or is i 0 not_below n) (3 if get_or ks i 0 above 16384 ∷ later) inside)
                  ∙ here;
            }

    -- the end
    pub limits_end : length is ≤ i → 0 ≡ first_number (limits_order n is ks)
    unfolding limits_order
    limits_end p =
        first_none [] tt ∙ ap₂ (λ (x y : List ℕ). first_number (limits_order n x y)) (sym (drop_of_length-le is {i = i} p)) refl ∙ l.same
