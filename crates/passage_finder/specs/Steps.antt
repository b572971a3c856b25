-- What the finder's own steps are called, which no public contract cites: the log's own records beside the letter's, and a letter of the right form
-- compared.
use Rattle.std.specs.Prelude.{◌≡◌, Bool, false, Option, Result, List, [], ◌∷◌, ◌++◌, map, ℕ, ◌^◌, ◌≤◌, ◌<◌, length, get_or, take}
use Rattle.wire.specs.Limits.{longest_record}
use Rattle.refusals.specs.declared.Refused.{Refused}
use Rattle.refusals.specs.Numbers.{outcome_by}
use Rattle.wire.specs.Slices.{bit, differ}
use Rattle.order.specs.Order.{Refusal, ◌if◌, ◌is_not◌, ◌above◌, verdict}
use Rattle.records.specs.Records.{cut, sums_order}
use Rattle.nodes.specs.Nodes.{node_in}
use Rattle.letter.specs.Items.{foreign}
use Rattle.letter_finder.specs.Outcome.{own_root}
use Rattle.findings.specs.Outcome.{Apart, nowhere, from, first_apart, apart_of, apart_at, NamedOutcome, named_refused, named_settled}
use Rattle.passage.specs.Bytes.{record_at, count_in, places, indexes_in, end_in}
use Rattle.passage.specs.Digests.{worked_root}
use Rattle.passage_fields.specs.declared.Fields.{Fields}
use Rattle.passage_finder.specs.Outcome.{first_difference, records_order, own_order, records_apart}

-- ---- the log's own records

-- the number, and whether one differs from the letter's
pub record OwnOutcome : Type 0 where
  pub number : ℕ
  pub apart : Apart

-- a refusal: its number alone
abbrev pub own_refused : ℕ → OwnOutcome
own_refused number = record { number = number; apart = nowhere }

-- done
abbrev pub own_done : Apart → OwnOutcome
own_done apart = record { number = 0; apart = apart }

-- the outcome by the answer, the index of the first that differs or why there is none
abbrev pub own_off : Result (Option ℕ) Refused → OwnOutcome
own_off r = outcome_by own_refused (λ (first : Option ℕ). own_done (apart_at first)) r

-- the first of two that names an index
abbrev pub soonest : Apart → Apart → Apart
soonest nowhere b = b
soonest (from i) b = from i

-- with one record more, which is at index i
abbrev pub Sooner : Option ℕ → Bool → ℕ → Option ℕ → Type 0
Sooner first apart i r = apart_at r ≡ soonest (apart_at first) (apart_of (bit apart) i)

-- where a record does not differ from the letter's, the letter's leaf is its digest
abbrev pub LeafBeside : (List ℕ → List ℕ) → Bool → List ℕ → List ℕ → Type 0
LeafBeside digest apart leaf rec = apart ≡ false → leaf ≡ digest rec

-- one of the log's own records at its index
unfoldable pub one_order : (List ℕ → List ℕ) → (ℕ → List ℕ) → ℕ → List ℕ → List Refusal
one_order digest node i rec = 3 if length rec above longest_record ∷ 13 if foreign digest node i rec is_not 0 ∷ []

-- an index for each of at most 256 places, and among the leaves the digest of the letter's record there
pub record Beside (digest : List ℕ → List ℕ) (is places letter leaves : List ℕ) : Type 0 where
  pub many : length places ≡ length is
  pub few : length is ≤ 256
  pub leaf : (k : ℕ) → k < length places → node_in leaves k ≡ digest (record_at letter (get_or places k 0))

-- 16, then each in turn: 3 and 13, and the first that differs from the letter's at the same place
unfoldable pub own_outcome : (List ℕ → List ℕ) → (ℕ → List ℕ) → List ℕ → List ℕ → List ℕ → List ℕ → List ℕ → OwnOutcome
own_outcome digest node is places records lengths letter =
    let rs = cut lengths records in
    verdict own_refused (sums_order (length is) (length records) lengths ++ records_order digest node is rs)
    (own_done (first_apart is rs (map (record_at letter) places)))

-- ---- a letter of the right form

-- for 1 to 2^32 leaves: what taking the letter apart gives, its lists in the first places of the two arrays
pub record Formed (n : ℕ) (letter : List ℕ) (f : Fields) : Type 0 where
  pub some : 0 < n
  pub most : n ≤ 2 ^ 32
  pub few : count_in letter ≤ 256
  pub inside : end_in letter ≤ length letter
  pub count : f.count ≡ count_in letter
  pub end : f.end ≡ end_in letter
  pub indexes_long : length f.indexes ≡ 256
  pub indexes : take f.count f.indexes ≡ indexes_in letter
  pub places_long : length f.places ≡ 256
  pub places : take f.count f.places ≡ places letter

-- the letter compared, over any nodes: 9, then 16, 3 and 13 for the log's own records, 14, and 6
unfoldable pub comparing : (List ℕ → List ℕ) → (ℕ → List ℕ) → ℕ → List ℕ → List ℕ → List ℕ → List ℕ → List ℕ → NamedOutcome
comparing digest node n records lengths letter first second =
    verdict (named_refused first second) (9 if differ (own_root digest node n) (worked_root digest n letter) is_not 0 ∷ [])
    (verdict (named_refused first second) (own_order digest node n (indexes_in letter) records lengths)
    (named_settled (first_difference digest node n letter) (records_apart records lengths letter) first second))
