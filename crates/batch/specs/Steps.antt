-- What the code's own step is called, which no public contract cites: what appending record after record leaves.
use Rattle.std.specs.Prelude.{List, ◌≡◌, ℕ}
use Rattle.evidence_log.specs.Appends.{State}

-- a size and a buffer that are those of a state
pub record Left (s : State) (grown : ℕ) (last : List ℕ) : Type 0 where
  pub size : grown ≡ s.size
  pub bytes : last ≡ s.bytes
