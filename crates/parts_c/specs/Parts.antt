-- What the calls for C answer on a digest in parts, and what they leave behind each pointer.
use Rattle.std.specs.Prelude.{List, ℕ}
use Rattle.parts.specs.declared.Parts.{Parts}
use Rattle.parts.specs.Answers.{begin_outcome, add_outcome, end_outcome}
use Rattle.kept.specs.Kept.{or_kept, Filled, filled, handed}

-- the number, and the state at return
pub record PartsLeft : Type 0 where
  pub number : ℕ
  pub state : Parts

abbrev pub parts_left : ℕ → Parts → PartsLeft
parts_left number state = record { number = number; state = state }

-- begun: never refused
unfoldable pub begin_call : List ℕ → PartsLeft
begin_call mode = parts_left 0 (begin_outcome mode)

-- one more part
unfoldable pub add_call : Parts → List ℕ → PartsLeft
add_call state part = let o = add_outcome state part in parts_left o.number o.state

-- the digest of all parts so far: what the end answers, then 6
unfoldable pub end_call : Parts → List ℕ → Filled
end_call state out =
    let o = end_outcome state in
    or_kept o.number (handed o.digest.bytes out) (filled o.number out)
