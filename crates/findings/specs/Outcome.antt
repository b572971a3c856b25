-- What a finder of many records answers: as one of a single record does, and with the index of the first two records that differ.
use Rattle.std.specs.Prelude.{List, [], ◌∷◌, ℕ, zero, suc, Option, None, Some, Result}
use Rattle.refusals.specs.declared.Refused.{Refused}
use Rattle.refusals.specs.Numbers.{outcome_by}
use Rattle.order.specs.Order.{verdict}
use Rattle.wire.specs.Slices.{splice, differ}
use Rattle.shape.specs.Difference.{Diff, agree, unequal}
use Rattle.difference.specs.Findings.{Finding, Nothing, Same, Records, Pair}
use Rattle.difference.specs.Outcome.{room_order}
use Rattle.findings.specs.declared.Named.{Named}

-- no two records differ; or the index of the first two that do
pub data Apart : Type 0 where
  nowhere : Apart
  from : ℕ → Apart

-- records compared in their order with others, each at the index that stands in the same place
unfoldable pub first_apart : List ℕ → List (List ℕ) → List (List ℕ) → Apart
first_apart [] rs ts = nowhere
first_apart (i ∷ is) [] ts = nowhere
first_apart (i ∷ is) (r ∷ rs) [] = nowhere
first_apart (i ∷ is) (r ∷ rs) (t ∷ ts) = elim (differ r t) [ zero ↦ first_apart is rs ts | suc k ↦ from i ]

-- the same, by whether two differ and by an index
abbrev pub apart_of : ℕ → ℕ → Apart
apart_of zero i = nowhere
apart_of (suc k) i = from i

-- the same, by the index of the first two that differ, where there are two
abbrev pub apart_at : Option ℕ → Apart
apart_at None = nowhere
apart_at (Some i) = from i

-- the number, what is found, the index that "records" names, and the two buffers at return: the first is for the log's input, the second for the
-- letter's
pub record NamedOutcome : Type 0 where
  pub number : ℕ
  pub finding : Finding
  pub index : ℕ
  pub first : List ℕ
  pub second : List ℕ

-- a refusal: its number, nothing found, and no lent byte changes
abbrev pub named_refused : List ℕ → List ℕ → ℕ → NamedOutcome
named_refused first second number = record { number = number; finding = Nothing; index = 0; first = first; second = second }

-- what is found, by the answer's own case
abbrev pub finding_of : Named → Finding
finding_of Named.Same = Same
finding_of (Named.Records i) = Records
finding_of Named.Pair = Pair

-- the index that it names: 0 but for "records"
abbrev pub index_of : Named → ℕ
index_of Named.Same = 0
index_of (Named.Records i) = i
index_of Named.Pair = 0

-- an answer that is found, and the two buffers at return
abbrev pub named_found : List ℕ → List ℕ → Named → NamedOutcome
named_found first second n = record { number = 0; finding = finding_of n; index = index_of n; first = first; second = second }

-- the outcome by the answer and the two buffers
abbrev pub named : Result Named Refused → List ℕ → List ℕ → NamedOutcome
named r first second = outcome_by (named_refused first second) (named_found first second) r

-- "records" with the index if they differ, else "same". The index is 0 but for "records"
abbrev pub by_records : Apart → List ℕ → List ℕ → NamedOutcome
by_records nowhere first second = record { number = 0; finding = Same; index = 0; first = first; second = second }
by_records (from i) first second = record { number = 0; finding = Records; index = i; first = first; second = second }

-- done: at a first difference of the inputs "pair", with the log's input in the first 64 bytes of one buffer and the letter's in those of the other;
-- with none, by the records. The buffers change only for "pair"
abbrev pub named_done : Diff → Apart → List ℕ → List ℕ → NamedOutcome
named_done agree apart first second = by_records apart first second
named_done (unequal ours theirs) apart first second =
    record { number = 0; finding = Pair; index = 0; first = splice 0 ours first; second = splice 0 theirs second }

-- where no refusal is left but 6, either buffer under 64
abbrev pub named_settled : Diff → Apart → List ℕ → List ℕ → NamedOutcome
named_settled diff apart first second =
    verdict (named_refused first second) (room_order first second) (named_done diff apart first second)
