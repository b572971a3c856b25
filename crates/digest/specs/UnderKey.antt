-- A key before an input: the first 32 bytes are the key, and what is behind them is judged in its mode.
use Rattle.std.specs.Prelude.{true, false, List, ℕ, ltb, length, take, drop}
use Rattle.digest.specs.Digest.{digest_in}
use Rattle.digest.specs.Modes.{keyed_mode}

-- the number that is judged of what is behind the key, with the digest under it; 24 for input under 32 bytes
unfoldable pub under_key : ((List ℕ → List ℕ) → List ℕ → ℕ) → List ℕ → ℕ
under_key judged input = elim (ltb (length input) 32) [ true ↦ 24 | false ↦ judged (digest_in (keyed_mode (take 32 input))) (drop 32 input) ]
