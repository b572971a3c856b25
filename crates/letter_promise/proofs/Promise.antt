-- The promise, over any digest function with digests of 32 bytes, and for Blake3; and that the logs of which it speaks are those that appends build.
use mathlib.Core.Path.{◌≡◌, ap, sym, subst, ◌∙◌}
use mathlib.Core.List.{List, map}
use Prim.Native.Nat.{ℕ, ◌*◌}
use lib.ListN.{length}
use Rattle.digest.specs.Digest.{digest_in, digest_length}
use Rattle.order.specs.Order.{◌under◌}
use Rattle.shape.specs.Tree.{root}
use Rattle.shape.specs.Folded.{tree}
use Rattle.nodes.specs.Nodes.{node_in}
use Rattle.nodes.proofs.Joined.{node_length}
use Rattle.evidence_log.specs.Outcome.{RootOutcome, root_outcome}
use Rattle.evidence_log.specs.Appends.{State, Sound}
use Rattle.evidence_log.proofs.Grown.{root_of_log}
use Rattle.evidence_log.proofs.Appends.{run_sound, run_all}
use Rattle.evidence_log.proofs.Hashed.{built_hashed_lem}
use Rattle.batch_laws.proofs.Calls.{calls_sound}
use Rattle.letter_finder.specs.Outcome.{find_outcome}
use Rattle.letter_promise.specs.Terms.{log_size, record_at}
use Rattle.letter_promise.specs.Promise.{EveryLetterAccepted, EveryAcceptedEnds, EveryOursSame, EverySameOurs}
use Rattle.letter_promise.specs.Promise.{OfEveryLog, LetterAccepted, AcceptedIsOurs, OursIsSame, SameIsOurs, FoundNamed}
use Rattle.letter_promise.specs.Promise.{OneLetter, Built, AppendsBuild, CallsBuild, PlacesBuilt}
use Rattle.letter_promise.proofs.Kept.{Kept, kept}
use Rattle.letter_promise.proofs.Ours.{letter_own}
use Rattle.letter_promise.proofs.Checked.{letters_accepted}
use Rattle.letter_promise.proofs.Named.{named_found}
use Rattle.letter_promise.proofs.Found.{accepted_ends, ours_same, same_ours}

-- ---- over any digest function

module _ (digest : List ℕ → List ℕ) (digest_32 : (x : List ℕ) → length (digest x) ≡ 32) where
  -- the root that is answered is the tree's
  pub of_every_log : (Says : List (List ℕ) → List ℕ → List ℕ → Type 0)
      → ((rs : List (List ℕ)) (bs : List ℕ) → Kept digest rs bs → Says rs (root digest (tree (map digest rs))) bs) → OfEveryLog digest Says
  of_every_log Says law rs g bs b =
      let e : (root_outcome digest (log_size rs) bs).root ≡ root digest (tree (map digest rs)) =
      ap (λ (o : RootOutcome). o.root) (root_of_log digest digest_32 rs bs g.some g.few b) in
      subst (λ (d : List ℕ). Says rs d bs) (sym e) (law rs bs (kept digest digest_32 rs bs g b))

  -- the letters that we write are accepted
  pub letter_accepted_over : LetterAccepted digest
  letter_accepted_over = of_every_log (EveryLetterAccepted digest) (λ rs bs k. letters_accepted k)

  -- bytes that are accepted are our letter, or the finder's own two strings have one digest
  pub accepted_is_ours_over : AcceptedIsOurs digest
  accepted_is_ours_over = of_every_log (EveryAcceptedEnds digest) (λ rs bs k. accepted_ends k)

  -- the other direction
  pub ours_is_same_over : OursIsSame digest
  ours_is_same_over = of_every_log (EveryOursSame digest) (λ rs bs k. ours_same k)

  pub same_is_ours_over : SameIsOurs digest
  same_is_ours_over = of_every_log (EverySameOurs digest) (λ rs bs k. same_ours k)

  -- what the finder names does collide, whatever it was given
  pub found_named_over : FoundNamed digest
  unfolding find_outcome
  found_named_over size bs rec letter first second =
      named_found digest digest_32 (node_in bs) (node_length bs) (length bs under 32 * size) size rec letter first second

  -- a log has one letter for an index, whatever stands in a buffer beyond its nodes
  pub one_letter_over : OneLetter digest
  one_letter_over rs bs cs g b c i p =
      letter_own (kept digest digest_32 rs bs g b) i p (record_at rs i) ∙ sym (letter_own (kept digest digest_32 rs cs g c) i p (record_at rs i))

  sound_built : (bs : List ℕ) (s : State) → Sound digest bs s → Built digest s
  sound_built bs s g some = (record { some = some; few = g.few; short = g.short }, g.begins, g.size)

  -- any run of appends to an empty log, refused ones among them, leaves such a log, its size, and such a buffer; so does any run of appends and batches
  pub appends_build_over : AppendsBuild digest
  appends_build_over bs rs = sound_built bs _ (run_sound digest digest_32 bs rs)

  pub calls_build_over : CallsBuild digest
  calls_build_over bs cs = sound_built bs _ (calls_sound digest digest_32 bs cs)

  -- what building a log and its root hashes is each record, and the string at each place of its tree
  pub places_built_over : PlacesBuilt digest
  places_built_over rs g bs room = rw (run_all digest digest_32 bs rs g.short g.few room) at (built_hashed_lem digest digest_32 bs rs)

-- ---- for BLAKE3, plain or keyed

pub letter_accepted : (mode : List ℕ) → LetterAccepted (digest_in mode)
letter_accepted mode = letter_accepted_over (digest_in mode) (digest_length mode)

pub accepted_is_ours : (mode : List ℕ) → AcceptedIsOurs (digest_in mode)
accepted_is_ours mode = accepted_is_ours_over (digest_in mode) (digest_length mode)

pub ours_is_same : (mode : List ℕ) → OursIsSame (digest_in mode)
ours_is_same mode = ours_is_same_over (digest_in mode) (digest_length mode)

pub same_is_ours : (mode : List ℕ) → SameIsOurs (digest_in mode)
same_is_ours mode = same_is_ours_over (digest_in mode) (digest_length mode)

pub found_named : (mode : List ℕ) → FoundNamed (digest_in mode)
found_named mode = found_named_over (digest_in mode) (digest_length mode)

pub one_letter : (mode : List ℕ) → OneLetter (digest_in mode)
one_letter mode = one_letter_over (digest_in mode) (digest_length mode)

pub appends_build : (mode : List ℕ) → AppendsBuild (digest_in mode)
appends_build mode = appends_build_over (digest_in mode) (digest_length mode)

pub calls_build : (mode : List ℕ) → CallsBuild (digest_in mode)
calls_build mode = calls_build_over (digest_in mode) (digest_length mode)

pub places_built : (mode : List ℕ) → PlacesBuilt (digest_in mode)
places_built mode = places_built_over (digest_in mode) (digest_length mode)
