-- The root call by the plain rule, over any digest function: over any buffer that begins with a log's nodes, and after any run of appends.
use Rattle.std.specs.Prelude.{◌≡◌, List, [], ℕ, ◌≤◌, length}
use Rattle.wire.specs.Limits.{most_leaves}
use Rattle.shape.specs.Sizes.{size_of}
use Rattle.nodes.specs.Nodes.{Begins}
use Rattle.evidence_log.specs.Outcome.{RootOutcome, root_refused, root_outcome}
use Rattle.evidence_log.specs.Appends.{State, run, empty, Sound}
use Rattle.batch_laws.specs.Calls.{Call, run_calls}
use Rattle.plain_rule.specs.Rule.{Split, plain_root}

module _ (digest : List ℕ → List ℕ) where
  -- what the root call answers of a list of records: 10 where there is none, and otherwise 0 and their root
  pub data Answers : List (List ℕ) → RootOutcome → Type 0 where
    none : Answers [] (root_refused 10)
    root : {rs : List (List ℕ)} (s : Split rs) → Answers rs (record { number = 0; root = plain_root digest s })

  -- `root_answers`: of up to 2^32 records, and any buffer that begins with their nodes
  abbrev pub RootAnswers : Type 0
  RootAnswers =
      (rs : List (List ℕ)) → length rs ≤ most_leaves → (bs : List ℕ) → Begins digest bs rs → Answers rs (root_outcome digest (size_of (length rs)) bs)

  -- `sound_answers`: of the records that were taken, in whatever way, where what is left is what appending them one by one leaves
  abbrev pub SoundAnswers : Type 0
  SoundAnswers = (bs : List ℕ) (s : State) → Sound digest bs s → Answers s.taken (root_outcome digest s.size s.bytes)

  -- `run_answers`: of the records that were taken by any run of appends to an empty log over any buffer, refused ones among them
  abbrev pub RunAnswers : Type 0
  RunAnswers = (bs : List ℕ) (rs : List (List ℕ)) → let s = run digest (empty bs) rs in Answers s.taken (root_outcome digest s.size s.bytes)

  -- `calls_answers`: of those that were taken by any run of appends and batches
  abbrev pub CallsAnswers : Type 0
  CallsAnswers = (bs : List ℕ) (cs : List Call) → let t = run_calls digest (empty bs) cs in Answers t.taken (root_outcome digest t.size t.bytes)

  -- `answers_only`: a list of records has one answer
  abbrev pub AnswersOnly : Type 0
  AnswersOnly = (rs : List (List ℕ)) (o p : RootOutcome) → Answers rs o → Answers rs p → o ≡ p
