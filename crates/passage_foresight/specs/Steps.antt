-- What the code's own steps ask.
use Rattle.std.specs.Prelude.{◌≡◌, List, ℕ, length}
use Rattle.records.specs.Records.{total}

-- one length for each index, and they add up to the joined bytes
pub record OneEach (is records lengths : List ℕ) : Type 0 where
  pub as_many : length lengths ≡ length is
  pub sum : total lengths ≡ length records
