-- What writer, checker and finder promise together, of every log: the letters that we write are accepted; and bytes that are accepted are our
-- letter, or the finder gives two different strings with one digest, one hashed in building the log or its root, the other in checking those bytes,
-- at the same place in the tree.
-- The statements stand at the end; what they speak of stands above them and in `Terms`, all over any digest function. They hold of every one whose
-- digests have 32 bytes; the theorems are these for Blake3. They speak of the outcomes that the contracts of the public calls cite, so they hold of
-- the code.
-- Of nodes that are not the log's, or another record than its own, one thing is claimed: what the finder names does collide (`found_named`).
use Rattle.std.specs.Prelude.{◌≢◌, ◌≡◌, ℕ, ◌*◌, ◌≤◌, ◌<◌, length, drop}
use mathlib.Core.List.{List, ◌++◌, map, Perm}
use Rattle.wire.specs.Numbers.{Bytes}
use Rattle.wire.specs.Writers.{write_done}
use Rattle.shape.specs.Tree.{places, hashed_at}
use Rattle.shape.specs.Difference.{Collision}
use Rattle.shape.specs.Folded.{tree}
use Rattle.nodes.specs.Nodes.{node_in, Begins}
use Rattle.evidence_log.specs.Appends.{State, run, empty}
use Rattle.batch_laws.specs.Calls.{Call, run_calls}
use Rattle.evidence_log.specs.Outcome.{root_outcome}
use Rattle.evidence_log.specs.Hashed.{built_hashed}
use Rattle.letter.specs.Bytes.{index_in, record_in}
use Rattle.letter.specs.Items.{letter_tree}
use Rattle.letter_writer.specs.Outcome.{our_letter, write_outcome}
use Rattle.difference.specs.Findings.{Same, Records, Pair}
use Rattle.difference.specs.Outcome.{FindOutcome, find_refused}
use Rattle.letter_finder.specs.Outcome.{find_outcome}
use Rattle.letter_promise.specs.Terms.{Log, log_size, record_at, Accepted, Ends}

-- our letter for index i, with the log's nodes in the buffer bs
abbrev pub ours : (List ℕ → List ℕ) → List (List ℕ) → List ℕ → ℕ → List ℕ
ours digest rs bs i = our_letter digest (log_size rs) i (record_at rs i) (node_in bs)

-- a log, its root, and a buffer with its nodes
module _ (digest : List ℕ → List ℕ) (rs : List (List ℕ)) (root bs : List ℕ) where
  -- the writer's outcome on the log's own record is our letter, and the checker's outcome on it is 0, the index and that record
  pub record WrittenAndAccepted (i : ℕ) (out : List ℕ) : Type 0 where
    pub written : write_outcome digest (log_size rs) i (record_at rs i) bs out ≡ write_done (ours digest rs bs i) out
    pub accepted : Accepted digest (log_size rs) root (ours digest rs bs i) i (record_at rs i)

  -- for every index, with room in the output
  abbrev pub EveryLetterAccepted : Type 0
  EveryLetterAccepted = (i : ℕ) → i < length rs → (out : List ℕ) → length (ours digest rs bs i) ≤ length out → WrittenAndAccepted i out

  -- for every list of bytes that is accepted with index i: the finder's own outcome on two buffers of at least 64 bytes, the nodes, the log's
  -- record at i and those bytes. The log's tree is the folded one, what is hashed there building the log or its root hashes (`places_built`), and
  -- what is hashed in the other checking those bytes does
  abbrev pub EveryAcceptedEnds : Type 0
  EveryAcceptedEnds =
      (letter : List ℕ) → Bytes letter → (i : ℕ) (r : List ℕ) → Accepted digest (log_size rs) root letter i r
      → (first second : List ℕ) → 64 ≤ length first → 64 ≤ length second
      → Ends digest (ours digest rs bs i) (record_at rs i) (tree (map digest rs)) (letter_tree digest (length rs) letter) letter r first second
      (find_outcome digest (log_size rs) bs (record_at rs i) letter first second)

  -- the other direction: where the bytes are our letter, the finder says "same" and changes nothing ..
  abbrev pub EveryOursSame : Type 0
  EveryOursSame =
      (i : ℕ) → i < length rs → (first second : List ℕ) → 64 ≤ length first → 64 ≤ length second
      → find_outcome digest (log_size rs) bs (record_at rs i) (ours digest rs bs i) first second
      ≡ record { number = 0; finding = Same; first = first; second = second }

  -- .. and where it says "same", of any record that it was given, they are the letter that we write for that record and the index that they name
  abbrev pub EverySameOurs : Type 0
  EverySameOurs =
      (rec letter : List ℕ) → Bytes letter → (first second : List ℕ)
      → (find_outcome digest (log_size rs) bs rec letter first second).finding ≡ Same
      → letter ≡ our_letter digest (log_size rs) (index_in letter) rec (node_in bs)

-- ---- whatever nodes, record, bytes and buffers the finder is given

module _ (digest : List ℕ → List ℕ) (rec letter first second : List ℕ) where
  -- what any outcome of the finder is
  pub data Named : FindOutcome → Type 0 where
    -- a refusal; no byte of the buffers changed
    named_none : (k : ℕ) → k ≢ 0 → Named (find_refused first second k)
    -- the two records are the same; no byte of the buffers changed
    named_same : rec ≡ record_in letter → Named (record { number = 0; finding = Same; first = first; second = second })
    -- the two records differ and have one digest; no byte of the buffers changed
    named_records : rec ≢ record_in letter → digest rec ≡ digest (record_in letter)
        → Named (record { number = 0; finding = Records; first = first; second = second })
    -- the first 64 bytes of the two buffers differ and have one digest; no other byte changed
    named_pair : (a b : List ℕ) → Collision digest 64 a b
        → Named (record { number = 0; finding = Pair; first = a ++ drop 64 first; second = b ++ drop 64 second })

-- ---- the statements

module _ (digest : List ℕ → List ℕ) where
  -- of every log, with its size, any buffer that begins with its nodes, and its root, which is what the log's own call answers (`root_of_log`)
  abbrev pub OfEveryLog : (List (List ℕ) → List ℕ → List ℕ → Type 0) → Type 0
  OfEveryLog Says = (rs : List (List ℕ)) → Log rs → (bs : List ℕ) → Begins digest bs rs → Says rs (root_outcome digest (log_size rs) bs).root bs

  -- `letter_accepted`: our letters are accepted
  abbrev pub LetterAccepted : Type 0
  LetterAccepted = OfEveryLog (EveryLetterAccepted digest)

  -- `accepted_is_ours`: bytes that are accepted are our letter, or the finder gives two strings
  abbrev pub AcceptedIsOurs : Type 0
  AcceptedIsOurs = OfEveryLog (EveryAcceptedEnds digest)

  -- `ours_is_same`, `same_is_ours`: the other direction
  abbrev pub OursIsSame : Type 0
  OursIsSame = OfEveryLog (EveryOursSame digest)

  abbrev pub SameIsOurs : Type 0
  SameIsOurs = OfEveryLog (EverySameOurs digest)

  -- `found_named`: what the finder names does collide, whatever it was given
  abbrev pub FoundNamed : Type 0
  FoundNamed =
      (size : ℕ) (bs rec letter first second : List ℕ) → Named digest rec letter first second (find_outcome digest size bs rec letter first second)

  -- `one_letter`: a log has one letter for an index, whatever stands in a buffer beyond its nodes
  abbrev pub OneLetter : Type 0
  OneLetter =
      (rs : List (List ℕ)) (bs cs : List ℕ) → Log rs → Begins digest bs rs → Begins digest cs rs
      → (i : ℕ) → i < length rs → ours digest rs bs i ≡ ours digest rs cs i

  -- where a record was taken: such a log, its size, and such a buffer
  abbrev pub Built : State → Type 0
  Built s = 1 ≤ length s.taken → Log s.taken × Begins digest s.bytes s.taken × (s.size ≡ log_size s.taken)

  -- `appends_build`: any run of appends to an empty log, refused ones among them, leaves that
  abbrev pub AppendsBuild : Type 0
  AppendsBuild = (bs : List ℕ) (rs : List (List ℕ)) → Built (run digest (empty bs) rs)

  -- `calls_build`: so does any run of appends and batches, so that a log that was kept by batches has every promise of this page
  abbrev pub CallsBuild : Type 0
  CallsBuild = (bs : List ℕ) (cs : List Call) → Built (run_calls digest (empty bs) cs)

  -- `places_built`: what appending a log's records one by one to an empty log with room, and then the root, hash is each record, and the string at
  -- each place of its folded tree, each as often
  abbrev pub PlacesBuilt : Type 0
  PlacesBuilt =
      (rs : List (List ℕ)) → Log rs → (bs : List ℕ) → 32 * log_size rs ≤ length bs → let t = tree (map digest rs) in
      Perm (built_hashed digest bs rs) (rs ++ map (hashed_at digest t) (places t))
