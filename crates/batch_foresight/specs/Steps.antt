-- What the code's own steps are called, which no public contract cites: a number of leaves that fits.
use Rattle.std.specs.Prelude.{ℕ, ◌*◌, ◌≤◌}
use Rattle.wire.specs.Limits.{most_leaves}
use Rattle.shape.specs.Sizes.{size_of}

-- so many leaves are within the limit, with so many bytes for nodes
pub record Ample (room m : ℕ) : Type 0 where
  pub few : m ≤ most_leaves
  pub fits : 32 * size_of m ≤ room
