-- What the promise for passages speaks of, over any digest function: a log's records at the indexes of a request, bytes that the checker accepts, two
-- records that collide, and how the finder's outcome ends. A log, its size and its record at an index are those of the single letter's promise.
use Rattle.std.specs.Prelude.{◌≢◌, ◌≡◌, List, [], ◌++◌, map, ℕ, ◌≤◌, ◌<◌, length, get_or, take, drop}
use Rattle.wire.specs.Slices.{part, splice}
use Rattle.shape.specs.Tree.{Tree, OnePlace}
use Rattle.shape.specs.Difference.{Collision}
use Rattle.letter_promise.specs.Terms.{record_at}
use Rattle.passage_checker.specs.Outcome.{check_outcome}
use Rattle.passage_records.specs.Outcome.{entry_outcome, entries_outcome}
use Rattle.difference.specs.Findings.{Same, Records, Pair}
use Rattle.findings.specs.Outcome.{NamedOutcome}

-- a log's own records at these indexes
abbrev pub records_at : List (List ℕ) → List ℕ → List (List ℕ)
records_at rs is = map (record_at rs) is

-- with a size and a root in hand the checker's outcome on these bytes is 0 and the number of records, and the calls beside it hand back these indexes
-- and these records
pub record Accepted (digest : List ℕ → List ℕ) (size : ℕ) (root letter : List ℕ) (is : List ℕ) (rs : List (List ℕ)) : Type 0 where
  -- where each record starts in the bytes: it is that part of them
  pub starts : List ℕ
  pub parts : (k : ℕ) → part (get_or starts k 0) (length (get_or rs k [])) letter ≡ get_or rs k []
  pub start_each : length starts ≡ length is
  pub record_each : length rs ≡ length is
  -- the check
  pub checked : check_outcome digest size root letter ≡ record { number = 0; count = length is }
  -- record k, counted from 0; past the last all is 0
  pub entry : (k : ℕ) → entry_outcome digest size root letter k
      ≡ record { number = 0; index = get_or is k 0; start = get_or starts k 0; length = length (get_or rs k []) }
  -- all records at once, into three lists with room: they fill the first places, and no other place changes
  pub entries : (xs ys zs : List ℕ) → length is ≤ length xs → length is ≤ length ys → length is ≤ length zs
      → entries_outcome digest size root letter xs ys zs
      ≡ record { number = 0; count = length is; indexes = splice 0 is xs; starts = splice 0 starts ys; lengths = splice 0 (map length rs) zs }

-- of two lists of records for these indexes: those at index i, which stands at a place of the list, differ and have one digest; those before that
-- place are the same
pub record Collide (digest : List ℕ → List ℕ) (is : List ℕ) (ours theirs : List (List ℕ)) (i : ℕ) : Type 0 where
  pub place : ℕ
  pub inside : place < length is
  pub index : get_or is place 0 ≡ i
  pub apart : get_or ours place [] ≢ get_or theirs place []
  pub one : digest (get_or ours place []) ≡ digest (get_or theirs place [])
  pub before : take place ours ≡ take place theirs

-- a log's own letter and records for some indexes, the log's tree, and the tree that bytes show
module _ (digest : List ℕ → List ℕ) (own : List ℕ) (ours : List (List ℕ)) (logged shown : Tree) where
  -- the finder's outcome, by its answer, for bytes that were accepted, which name these indexes and hold the records `theirs`
  pub data Ends (letter is : List ℕ) (theirs : List (List ℕ)) (first second : List ℕ) : NamedOutcome → Type 0 where
    -- the bytes are the log's own letter; no byte of the buffers changed
    ends_same : letter ≡ own → Ends letter is theirs first second (record { number = 0; finding = Same; index = 0; first = first; second = second })
    -- the two records at index i, which the bytes name, differ and have one digest; no byte of the buffers changed
    ends_records : (i : ℕ) → Collide digest is ours theirs i
        → Ends letter is theirs first second (record { number = 0; finding = Records; index = i; first = first; second = second })
    -- the first 64 bytes of the two buffers are a and b, which differ and have one digest; a is hashed in the log's tree, and b in the one that the
    -- bytes show, at one place of both; no other byte changed
    ends_pair : (a b : List ℕ) → Collision digest 64 a b → OnePlace digest logged shown a b
        → Ends letter is theirs first second
        (record { number = 0; finding = Pair; index = 0; first = a ++ drop 64 first; second = b ++ drop 64 second })
