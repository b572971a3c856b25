-- What writer, checker and finder of passage letters promise together, of every log and every request within the limits: the letters that we write
-- are accepted, and give those records; and bytes that are accepted are our letter for the indexes that they name, or the finder gives two different
-- strings with one digest, one hashed in building the log or its root, the other in checking those bytes, at the same place in the tree, or two
-- different records with one digest, the log's and the bytes' own, at an index that they name.
-- The statements stand at the end; what they speak of stands above them and in `Terms`, all over any digest function. They hold of every one whose
-- digests have 32 bytes; the theorems are these for BLAKE3 in every mode. They speak of the outcomes that the contracts of the public calls cite, so
-- they hold of the code.
-- Of the log `letter_promise` has the rest: what is hashed in its tree is what building it and its root hashes (`places_built`), and runs of appends
-- and batches leave such a log and such a buffer (`appends_build`, `calls_build`).
-- Of nodes that are not the log's, or other records than its own, one thing is claimed: what the finder names does collide (`found_named`).
use Rattle.std.specs.Prelude.{◌≢◌, ◌≡◌, List, ◌++◌, map, ℕ, ◌≤◌, length, drop}
use Rattle.wire.specs.Numbers.{Bytes}
use Rattle.wire.specs.Slices.{joined}
use Rattle.wire.specs.Writers.{write_done}
use Rattle.records.specs.Records.{cut}
use Rattle.shape.specs.Sizes.{leaves}
use Rattle.shape.specs.Difference.{Collision}
use Rattle.shape.specs.Folded.{tree}
use Rattle.nodes.specs.Nodes.{node_in, Begins}
use Rattle.letter_promise.specs.Terms.{Log, log_size}
use Rattle.letter_promise.specs.Promise.{OfEveryLog}
use Rattle.passage.specs.Bytes.{indexes_in, records_in}
use Rattle.passage.specs.Request.{Request}
use Rattle.passage.specs.Digests.{letter_tree}
use Rattle.passage_writer.specs.Outcome.{our_passage, write_outcome}
use Rattle.passage_checker.specs.Outcome.{check_outcome}
use Rattle.difference.specs.Findings.{Same, Records, Pair}
use Rattle.findings.specs.Outcome.{NamedOutcome, named_refused}
use Rattle.passage_finder.specs.Outcome.{find_outcome}
use Rattle.passage_promise.specs.Terms.{records_at, Accepted, Collide, Ends}

-- our letter for these indexes, with the log's nodes in the buffer bs
abbrev pub ours : (List ℕ → List ℕ) → List (List ℕ) → List ℕ → List ℕ → List ℕ
ours digest rs bs is = our_passage digest (log_size rs) is (records_at rs is) (node_in bs)

-- a log, its root, and a buffer with its nodes
module _ (digest : List ℕ → List ℕ) (rs : List (List ℕ)) (root bs : List ℕ) where
  -- the writer's outcome on the log's own records, joined together, with their lengths, is our letter; the checker's outcome on it is 0 and the
  -- number of records, and the calls beside it hand back those indexes and records
  pub record WrittenAndAccepted (is out : List ℕ) : Type 0 where
    pub written : let own = records_at rs is in
        write_outcome digest (log_size rs) is (joined own) (map length own) bs out ≡ write_done (ours digest rs bs is) out
    pub accepted : Accepted digest (log_size rs) root (ours digest rs bs is) is (records_at rs is)

  -- for every request within the limits, with room in the output
  abbrev pub EveryPassageAccepted : Type 0
  EveryPassageAccepted =
      (is : List ℕ) → Request (length rs) is → (out : List ℕ) → length (ours digest rs bs is) ≤ length out → WrittenAndAccepted is out

  -- for every list of bytes that is accepted: the finder's own outcome on two buffers of at least 64 bytes, the nodes, the log's own records at the
  -- indexes that the bytes name, joined together, with their lengths, and those bytes. The indexes and records of the bytes are those that the calls
  -- hand back (`accepted_handed`)
  abbrev pub EveryAcceptedEnds : Type 0
  EveryAcceptedEnds =
      (letter : List ℕ) → Bytes letter → (check_outcome digest (log_size rs) root letter).number ≡ 0
      → (first second : List ℕ) → 64 ≤ length first → 64 ≤ length second
      → let is = indexes_in letter in let own = records_at rs is in
      Ends digest (ours digest rs bs is) own (tree (map digest rs)) (letter_tree digest (length rs) letter) letter is (records_in letter) first second
      (find_outcome digest (log_size rs) bs (joined own) (map length own) letter first second)

  -- the other direction: where the bytes are our letter, the finder says "same" and changes nothing ..
  abbrev pub EveryOursSame : Type 0
  EveryOursSame =
      (is : List ℕ) → Request (length rs) is → (first second : List ℕ) → 64 ≤ length first → 64 ≤ length second
      → let own = records_at rs is in find_outcome digest (log_size rs) bs (joined own) (map length own) (ours digest rs bs is) first second
      ≡ record { number = 0; finding = Same; index = 0; first = first; second = second }

  -- .. and where it says "same", of any records that it was given, they are the letter that we write for those records and the indexes that they name
  abbrev pub EverySameOurs : Type 0
  EverySameOurs =
      (records lengths letter : List ℕ) → Bytes letter → (first second : List ℕ)
      → (find_outcome digest (log_size rs) bs records lengths letter first second).finding ≡ Same
      → letter ≡ our_passage digest (log_size rs) (indexes_in letter) (cut lengths records) (node_in bs)

-- ---- whatever nodes, records, lengths, bytes and buffers the finder is given

module _ (digest : List ℕ → List ℕ) (given : List (List ℕ)) (letter first second : List ℕ) where
  -- what any outcome of the finder is, by the records that it was given and the letter's own
  pub data Named : NamedOutcome → Type 0 where
    -- a refusal; no byte of the buffers changed
    named_none : (k : ℕ) → k ≢ 0 → Named (named_refused first second k)
    -- the records are the same; no byte of the buffers changed
    named_same : given ≡ records_in letter → Named (record { number = 0; finding = Same; index = 0; first = first; second = second })
    -- the two records at index i, which the letter names, differ and have one digest; no byte of the buffers changed
    named_records : (i : ℕ) → Collide digest (indexes_in letter) given (records_in letter) i
        → Named (record { number = 0; finding = Records; index = i; first = first; second = second })
    -- the first 64 bytes of the two buffers differ and have one digest; no other byte changed
    named_pair : (a b : List ℕ) → Collision digest 64 a b
        → Named (record { number = 0; finding = Pair; index = 0; first = a ++ drop 64 first; second = b ++ drop 64 second })

-- ---- the statements

module _ (digest : List ℕ → List ℕ) where
  -- `passage_accepted`: our letters are accepted
  abbrev pub PassageAccepted : Type 0
  PassageAccepted = OfEveryLog digest (EveryPassageAccepted digest)

  -- `accepted_passage_is_ours`: bytes that are accepted are our letter for the indexes that they name, or the finder gives two strings
  abbrev pub AcceptedPassageIsOurs : Type 0
  AcceptedPassageIsOurs = OfEveryLog digest (EveryAcceptedEnds digest)

  -- `ours_is_same`, `same_is_ours`: the other direction
  abbrev pub OursIsSame : Type 0
  OursIsSame = OfEveryLog digest (EveryOursSame digest)

  abbrev pub SameIsOurs : Type 0
  SameIsOurs = OfEveryLog digest (EverySameOurs digest)

  -- `found_named`: what the finder names does collide, whatever it was given
  abbrev pub FoundNamed : Type 0
  FoundNamed =
      (size : ℕ) (bs records lengths letter first second : List ℕ)
      → Named digest (cut lengths records) letter first second (find_outcome digest size bs records lengths letter first second)

  -- `one_passage`: a log has one letter for a request, whatever stands in a buffer beyond its nodes
  abbrev pub OnePassage : Type 0
  OnePassage =
      (rs : List (List ℕ)) (bs cs : List ℕ) → Log rs → Begins digest bs rs → Begins digest cs rs
      → (is : List ℕ) → Request (length rs) is → ours digest rs bs is ≡ ours digest rs cs is

  -- `accepted_handed`: with any size and root, bytes that are accepted name a request within the limits, and the calls hand back the indexes that
  -- they name and the records that they hold
  abbrev pub AcceptedHanded : Type 0
  AcceptedHanded =
      (size : ℕ) (root letter : List ℕ) → (check_outcome digest size root letter).number ≡ 0
      → Request (leaves size) (indexes_in letter) × Accepted digest size root letter (indexes_in letter) (records_in letter)
