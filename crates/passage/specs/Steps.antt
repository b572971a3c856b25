-- What the walks for a passage ask, which no public contract cites.
use Rattle.std.specs.Prelude.{List, ℕ, ◌+◌, ◌^◌, ◌≤◌, length}
use Rattle.passage.specs.Request.{most_records}

-- a subtree of at most 2^h leaves, the first of them leaf p, with at most 256 indexes: no sum wraps
pub record Countable (h p : ℕ) (is : List ℕ) : Type 0 where
  pub low : h ≤ 32
  pub near : p + 2 ^ h ≤ 2 ^ 33
  pub few : length is ≤ most_records
