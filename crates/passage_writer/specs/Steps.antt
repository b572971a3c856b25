-- What the code's own steps ask and answer, which no public contract cites.
use Rattle.std.specs.Prelude.{◌≡◌, List, ℕ, ◌+◌, ◌*◌, ◌≤◌, length}
use Rattle.wire.specs.Slices.{splice}
use Rattle.records.specs.Records.{cut}
use Rattle.passage.specs.Bytes.{head, frame, entries}
use Rattle.passage_foresight.specs.Steps.{OneEach}

-- where the records end that stand behind the head
abbrev pub end_of : List ℕ → List ℕ → ℕ
end_of is records = head + (frame * length is + length records)

-- room for them
pub record Fitting (is records lengths : List ℕ) (room : ℕ) : Type 0 where
  pub each : OneEach is records lengths
  pub fits : end_of is records ≤ room

-- the place behind them, and the buffer with them
pub record Entered (is records lengths d : List ℕ) (next : ℕ) (last : List ℕ) : Type 0 where
  pub behind : next ≡ end_of is records
  pub bytes : last ≡ splice head (entries is (cut lengths records)) d
