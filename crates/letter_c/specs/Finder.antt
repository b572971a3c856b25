-- What the call of the finder answers, and what it leaves behind each pointer: the finder's outcome, with what was there kept on a refusal.
use Rattle.std.specs.Prelude.{List, ℕ}
use Rattle.digest.specs.Digest.{digest_in}
use Rattle.difference.specs.Findings.{finding_number}
use Rattle.letter_finder.specs.Outcome.{find_outcome}
use Rattle.kept.specs.Kept.{or_kept}

-- the number, what is found, and the two buffers, at return: the first is for the log's input, the second for the letter's
pub record FindLeft : Type 0 where
  pub number : ℕ
  pub found : ℕ
  pub first : List ℕ
  pub second : List ℕ

abbrev pub find_left : ℕ → ℕ → List ℕ → List ℕ → FindLeft
find_left number found first second = record { number = number; found = found; first = first; second = second }

-- the result variable held `old`
unfoldable pub find_call : List ℕ → ℕ → List ℕ → List ℕ → List ℕ → List ℕ → List ℕ → ℕ → FindLeft
find_call mode size bs rec letter first second old =
    let o = find_outcome (digest_in mode) size bs rec letter first second in
    or_kept o.number (find_left 0 (finding_number o.finding) o.first o.second) (find_left o.number old o.first o.second)
