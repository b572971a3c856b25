-- What the code's own steps ask, which no public contract cites.
use Rattle.std.specs.Prelude.{ℕ, ◌+◌, ◌*◌, ◌^◌, ◌≤◌, ◌<◌}

-- what a fold asks: some leaves, fewer than 2^k, and no sum that wraps
pub record Foldable (k n s : ℕ) : Type 0 where
  pub low : k ≤ 34
  pub some : 0 < n
  pub few : n < 2 ^ k
  pub near : s + 2 * 2 ^ k ≤ 2 ^ 36
