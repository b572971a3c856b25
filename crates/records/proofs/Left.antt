-- Lengths taken one after the other from so many bytes: what is left at length i.
use mathlib.Core.Path.{◌≡◌, ap}
use mathlib.Core.Logic.{◌≢◌}
use mathlib.Core.List.{List}
use Prim.Native.Nat.{ℕ, ◌+◌, ◌-◌, ◌≤◌, ◌<◌}
use native.Mathlib.Omega.{arith}
use lib.ListN.{length, get_or, drop, drop_of_length-le}
use Rattle.order.specs.Order.{first_number}
use Rattle.order.proofs.Laws.{first_is, first_none}
use Rattle.records.specs.Records.{total, sums_order}
use Rattle.records.proofs.Sums.{next_length, total_none, total_cons}

module _ (count bytes : ℕ) (ks : List ℕ) where
  -- not so many lengths
  pub sums_count : length ks ≢ count → 16 ≡ first_number (sums_order count bytes ks)
  sums_count h = first_is 16 (sums_order count bytes ks) (λ e. absurd (h e))

  -- lengths that don't add up
  pub sums_off : total ks ≢ bytes → 16 ≡ first_number (sums_order count bytes ks)
  sums_off h = first_is 16 (sums_order count bytes ks) (λ _ e. absurd (h e))

  pub record Sums (left i : ℕ) : Type 0 where
    pub within : i ≤ length ks
    pub sum : total ks + left ≡ bytes + total (drop i ks)

  module _ {left i : ℕ} (s : Sums left i) where
    -- a length that is more than what is left
    pub sums_short : i < length ks → left < get_or ks i 0 → 16 ≡ first_number (sums_order count bytes ks)
    sums_short p h = sums_off (λ e. omega (arith, s.sum, ap total (next_length ks i p), total_cons (get_or ks i 0) (drop (i + 1) ks)))

    -- one length more
    pub sums_next : i < length ks → get_or ks i 0 ≤ left → Sums (left - get_or ks i 0) (i + 1)
    sums_next p h =
        record { within = omega arith; sum = omega (arith, s.sum, ap total (next_length ks i p), total_cons (get_or ks i 0) (drop (i + 1) ks)) }

    -- the end: they add up, or they do not
    module _ (p : length ks ≤ i) where
      last : total ks + left ≡ bytes
      last = omega (arith, s.sum, ap total (drop_of_length-le ks {i = i} p), total_none)

      pub sums_done : length ks ≡ count → left ≡ 0 → 0 ≡ first_number (sums_order count bytes ks)
      sums_done e z = first_none (sums_order count bytes ks) (e, (omega (arith, last), tt))

      pub sums_left : left ≢ 0 → 16 ≡ first_number (sums_order count bytes ks)
      sums_left z = sums_off (λ e. z (omega (arith, last)))
