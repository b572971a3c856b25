-- The largest power of two below a number: after so many a tree is split, that of a digest's chunks and that of a log's records.
use Rattle.std.specs.Prelude.{◌≡◌, ℕ, ◌^◌, ◌≤◌, ◌<◌}

-- p is the largest power of two below c
pub record LargestPowerBelow (c p : ℕ) : Type 0 where
  pub exponent : ℕ
  pub power : p ≡ 2 ^ exponent
  pub below : p < c
  pub largest : (k : ℕ) → 2 ^ k < c → 2 ^ k ≤ p
