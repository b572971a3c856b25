-- What a comparison answers, from the root down and then by the records, and what it leaves in the two buffers.
use Rattle.std.specs.Prelude.{List, [], ◌∷◌, ℕ, zero, suc, Result, length}
use Rattle.refusals.specs.declared.Refused.{Refused}
use Rattle.refusals.specs.Numbers.{outcome_by}
use Rattle.order.specs.Order.{Refusal, ◌if◌, ◌under◌, verdict}
use Rattle.wire.specs.Slices.{splice, differ}
use Rattle.shape.specs.Difference.{Diff, agree, unequal}
use Rattle.inputs.specs.Given.{given_difference}
use Rattle.difference.specs.declared.Finding.{Finding as Found}
use Rattle.difference.specs.Findings.{Finding, Nothing, Same, Records, Pair, finding_of}

-- the number, what is found, and the two buffers at return: the first is for the log's input, the second for the letter's
pub record FindOutcome : Type 0 where
  pub number : ℕ
  pub finding : Finding
  pub first : List ℕ
  pub second : List ℕ

-- a refusal: its number, nothing found, and no lent byte changes
abbrev pub find_refused : List ℕ → List ℕ → ℕ → FindOutcome
find_refused first second number = record { number = number; finding = Nothing; first = first; second = second }

-- an answer that is found, and the two buffers at return
abbrev pub find_found : List ℕ → List ℕ → Found → FindOutcome
find_found first second f = record { number = 0; finding = finding_of f; first = first; second = second }

-- the outcome by the answer and the two buffers
abbrev pub found : Result Found Refused → List ℕ → List ℕ → FindOutcome
found r first second = outcome_by (find_refused first second) (find_found first second) r

-- "records" if they differ, else "same"
abbrev pub by_records : ℕ → Finding
by_records zero = Same
by_records (suc k) = Records

-- done: at a first difference "pair", with the log's input in the first 64 bytes of one buffer and the letter's in those of the other; with none, by
-- the records. The buffers change only for "pair"
abbrev pub find_done : Diff → ℕ → List ℕ → List ℕ → FindOutcome
find_done agree apart first second = record { number = 0; finding = by_records apart; first = first; second = second }
find_done (unequal ours theirs) apart first second =
    record { number = 0; finding = Pair; first = splice 0 ours first; second = splice 0 theirs second }

-- either buffer under 64
unfoldable pub room_order : List ℕ → List ℕ → List Refusal
room_order first second = 6 if length first under 64 ∷ 6 if length second under 64 ∷ []

-- where no other refusal is left
abbrev pub settled : Diff → ℕ → List ℕ → List ℕ → FindOutcome
settled diff apart first second =
    verdict (find_refused first second) (room_order first second) (find_done diff apart first second)

-- ---- two given lists

-- two given lists of inputs and two given records compared as the finder does it, 6 tested whatever the outcome
unfoldable pub compare_outcome : List ℕ → List ℕ → List ℕ → List ℕ → List ℕ → List ℕ → FindOutcome
compare_outcome ours theirs rec other first second = settled (given_difference ours theirs) (differ rec other) first second
