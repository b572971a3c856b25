-- The limits of the rules.
use Rattle.std.specs.Prelude.{ℕ, ◌^◌}

-- the most leaves of a log
abbrev pub most_leaves : ℕ
most_leaves = 2 ^ 32

-- the most bytes of a record
abbrev pub longest_record : ℕ
longest_record = 16384
