-- What the promise speaks of, over any digest function: a log, bytes that the checker accepts, and how the finder's outcome ends.
use Rattle.std.specs.Prelude.{◌≢◌, ◌≡◌, List, [], ◌++◌, ℕ, ◌≤◌, length, get_or, drop}
use Rattle.wire.specs.Limits.{most_leaves}
use Rattle.shape.specs.Sizes.{size_of}
use Rattle.shape.specs.Tree.{Tree, OnePlace}
use Rattle.shape.specs.Difference.{Collision}
use Rattle.evidence_log.specs.Appends.{Short}
use Rattle.letter_checker.specs.Outcome.{check_outcome, record_by}
use Rattle.difference.specs.Findings.{Same, Records, Pair}
use Rattle.difference.specs.Outcome.{FindOutcome}

-- a log: any list of 1 to 2^32 records, none above 16,384 bytes
pub record Log (rs : List (List ℕ)) : Type 0 where
  pub some : 1 ≤ length rs
  pub few : length rs ≤ most_leaves
  pub short : Short rs

-- its size, and its record at an index
abbrev pub log_size : List (List ℕ) → ℕ
log_size rs = size_of (length rs)

abbrev pub record_at : List (List ℕ) → ℕ → List ℕ
record_at rs i = get_or rs i []

-- with a size and a root in hand the checker's outcome on these bytes is 0, the index i and the record r
pub record Accepted (digest : List ℕ → List ℕ) (size : ℕ) (root letter : List ℕ) (i : ℕ) (r : List ℕ) : Type 0 where
  pub number : (check_outcome digest size root letter).number ≡ 0
  pub index : (check_outcome digest size root letter).index ≡ i
  pub rec : record_by (check_outcome digest size root letter) letter ≡ r

-- a log's own letter and record at an index, the log's tree, and the tree that bytes show
module _ (digest : List ℕ → List ℕ) (own rec : List ℕ) (logged shown : Tree) where
  -- the finder's outcome, by its answer, for bytes that were accepted with that index and the record r
  pub data Ends (letter r first second : List ℕ) : FindOutcome → Type 0 where
    -- the bytes are the log's own letter; no byte of the buffers changed
    ends_same : letter ≡ own → Ends letter r first second (record { number = 0; finding = Same; first = first; second = second })
    -- r and the log's record differ and have one digest; no byte of the buffers changed
    ends_records : r ≢ rec → digest r ≡ digest rec
        → Ends letter r first second (record { number = 0; finding = Records; first = first; second = second })
    -- the first 64 bytes of the two buffers are a and b, which differ and have one digest; a is hashed in the log's tree, and b in the one that the
    -- bytes show, at one place of both; no other byte changed
    ends_pair : (a b : List ℕ) → Collision digest 64 a b → OnePlace digest logged shown a b
        → Ends letter r first second (record { number = 0; finding = Pair; first = a ++ drop 64 first; second = b ++ drop 64 second })
