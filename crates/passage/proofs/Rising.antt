-- What a list is that is no request, read from the front, and what one is that is.
use mathlib.Core.Path.{◌≡◌, ap, ◌∙◌}
use mathlib.Core.List.{List, [], ◌∷◌}
use Prim.Native.Nat.{ℕ, suc, ◌+◌, ◌≤◌, ◌<◌}
use native.Mathlib.Omega.{arith}
use lib.ListN.{length, get_or, drop, drop_of_length-le}
use lib.Seq.{drop-cons}
use Rattle.order.specs.Order.{first_number}
use Rattle.order.proofs.Laws.{Passes, first_is, first_none, first_next}
use Rattle.views.specs.Passage.{Rising}
use Rattle.passage.specs.Request.{rising_order, request_order, Request}

-- ---- its number, one index after the other

pub request_none : (is : List ℕ) → length is ≡ 0 → 19 ≡ first_number (request_order is)
unfolding request_order
request_none is p = first_is 19 _ (λ f. absurd (omega arith))

pub request_many : (is : List ℕ) → 0 < length is → 256 < length is → 19 ≡ first_number (request_order is)
unfolding request_order
request_many is p q = first_is 19 _ (λ f g. absurd (omega arith))

-- of 1 to 256 indexes the first is never refused
pub request_first : (is : List ℕ) {i : ℕ} {rest : List ℕ} → is ≡ i ∷ rest → length is ≤ 256
    → first_number (request_order is) ≡ first_number (rising_order (suc i) rest)
unfolding request_order rising_order
request_first is {i} {rest} e q =
    let n : length is ≡ length rest + 1 = ap length e ∙ omega arith in
    first_next 19 _ _ (omega arith) ∙ first_next 19 _ _ (omega arith) ∙ rw e (first_next 19 _ _ (omega arith))

module _ (is : List ℕ) (last k : ℕ) where
  -- an index above the last
  pub rising_next : k < length is → last < get_or is k 0
      → first_number (rising_order (suc last) (drop k is)) ≡ first_number (rising_order (suc (get_or is k 0)) (drop (suc k) is))
  unfolding rising_order
  rising_next p q = rw (drop-cons is k 0 p) (first_next 19 _ _ q)

  -- one that is not
  pub rising_stop : k < length is → get_or is k 0 ≤ last → 19 ≡ first_number (rising_order (suc last) (drop k is))
  unfolding rising_order
  rising_stop p q = rw (drop-cons is k 0 p) (first_is 19 _ (λ f. absurd (omega arith)))

  pub rising_end : length is ≤ k → 0 ≡ first_number (rising_order (suc last) (drop k is))
  unfolding rising_order
  rising_end p = rw (drop_of_length-le is {i = k} p) (first_none _ tt)

-- ---- what is read off an order that passes

-- strictly rising, and each below q
pub rising_met : (p q : ℕ) (is : List ℕ) → Passes (rising_order p is) → ((k : ℕ) → k < length is → get_or is k 0 < q) → Rising p q is
unfolding rising_order
rising_met p q [] h b = tt
rising_met p q (i ∷ is) h b = (h.0, b 0 (omega arith), rising_met (suc i) q is h.1 (λ k l. b (suc k) (omega arith)))

pub rising_passes : (p q : ℕ) (is : List ℕ) → Rising p q is → Passes (rising_order p is)
unfolding rising_order
rising_passes p q [] h = tt
rising_passes p q (i ∷ is) h = (h.0, rising_passes (suc i) q is h.2)

-- a list that is not refused with 19, each index below n, is a request for leaves of a log of n ..
pub request_met : (n : ℕ) (is : List ℕ) → Passes (request_order is) → ((k : ℕ) → k < length is → get_or is k 0 < n) → Request n is
unfolding request_order
request_met n is h b = record { some = h.0; few = h.1.0; rising = rising_met 0 n is h.1.1 b }

-- .. and the other way round
pub request_passes : (n : ℕ) (is : List ℕ) → Request n is → Passes (request_order is)
unfolding request_order
request_passes n is r = (r.some, (r.few, rising_passes 0 n is r.rising))
