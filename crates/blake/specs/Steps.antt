-- What the code's own step is called, which no public contract cites: what the tree's function asks.
use Rattle.std.specs.Prelude.{ℕ, ◌+◌, ◌*◌, ◌^◌, ◌≤◌}

-- ---- The tree: few enough chunks that no counter wraps

pub record Room (h n len : ℕ) : Type 0 where
  pub height : h ≤ 54
  pub bytes : len ≤ 1024 * 2 ^ h
  pub chunks : n + 2 ^ h ≤ 2 ^ 54
