-- What a writer returns, and what it leaves in the output buffer.
use Rattle.std.specs.Prelude.{List, ℕ, Result, length}
use Rattle.refusals.specs.declared.Refused.{Refused}
use Rattle.refusals.specs.Numbers.{outcome_by}
use Rattle.wire.specs.Slices.{splice}

-- the number, the length, and the bytes of the output buffer as the writer returns
pub record WriteOutcome : Type 0 where
  pub number : ℕ
  pub length : ℕ
  pub bytes : List ℕ

-- a refusal returns its number with length 0, and no lent byte changes
abbrev pub write_refused : List ℕ → ℕ → WriteOutcome
write_refused out n = record { number = n; length = 0; bytes = out }

-- done returns the length of what is written, which fills the first bytes, and no other byte changes
abbrev pub write_done : List ℕ → List ℕ → WriteOutcome
write_done bytes out = record { number = 0; length = length bytes; bytes = splice 0 bytes out }

-- the outcome by the answer, the length or why there is none, and those bytes
abbrev pub wrote : Result ℕ Refused → List ℕ → WriteOutcome
wrote r bytes = outcome_by (write_refused bytes) (λ n. record { number = 0; length = n; bytes = bytes }) r
