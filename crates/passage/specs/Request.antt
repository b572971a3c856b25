-- The request: a strictly rising list of indexes, 1 to 256 of them.
use Rattle.std.specs.Prelude.{List, [], ◌∷◌, ℕ, suc, ◌≤◌, length}
use Rattle.order.specs.Order.{Refusal, ◌if◌, ◌under◌, ◌above◌}
use Rattle.views.specs.Passage.{Rising}

-- the most records of a letter
abbrev pub most_records : ℕ
most_records = 256

-- each index not below a number, which for all but the first is the last index and 1
unfoldable pub rising_order : ℕ → List ℕ → List Refusal
rising_order floor [] = []
rising_order floor (i ∷ is) = 19 if i under floor ∷ rising_order (suc i) is

-- an empty list; more than 256; an index not above the last
unfoldable pub request_order : List ℕ → List Refusal
request_order is = 19 if length is under 1 ∷ 19 if length is above most_records ∷ rising_order 0 is

-- a request for leaves of a log of n: 1 to 256 indexes, strictly rising, each below n (`request_met`)
pub record Request (n : ℕ) (is : List ℕ) : Type 0 where
  pub some : 1 ≤ length is
  pub few : length is ≤ most_records
  pub rising : Rising 0 n is
