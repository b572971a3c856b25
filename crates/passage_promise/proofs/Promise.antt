-- The promise for passages, over any digest function with digests of 32 bytes, and for BLAKE3 in every mode.
use mathlib.Core.Path.{◌≡◌, sym, ◌∙◌}
use mathlib.Core.List.{List}
use Prim.Native.Nat.{ℕ, ◌*◌}
use native.Mathlib.Omega.{arith}
use lib.ListN.{length}
use Rattle.digest.specs.Digest.{digest_in, digest_length}
use Rattle.order.specs.Order.{◌under◌}
use Rattle.shape.specs.Sizes.{leaves}
use Rattle.nodes.specs.Nodes.{node_in}
use Rattle.nodes.proofs.Joined.{node_length}
use Rattle.letter_promise.specs.Terms.{log_size}
use Rattle.passage_finder.specs.Outcome.{find_outcome}
use Rattle.passage_promise.specs.Terms.{records_at}
use Rattle.passage_promise.specs.Promise.{ours, EveryPassageAccepted, EveryAcceptedEnds, EveryOursSame, EverySameOurs}
use Rattle.passage_promise.specs.Promise.{PassageAccepted, AcceptedPassageIsOurs, OursIsSame, SameIsOurs}
use Rattle.passage_promise.specs.Promise.{FoundNamed, OnePassage, AcceptedHanded}
use Rattle.letter_promise.proofs.Kept.{Kept, kept, log_root, counts, root_length}
use Rattle.letter_promise.proofs.Promise.{of_every_log}
use Rattle.passage_promise.proofs.Ours.{letter_own, ours_indexes, ours_records, ours_passed}
use Rattle.passage_promise.proofs.Checked.{Checks, passed_request, accepted_checks, checks_accepted}
use Rattle.passage_promise.proofs.Written.{ours_written}
use Rattle.passage_promise.proofs.Named.{named_found}
use Rattle.passage_promise.proofs.Found.{accepted_ends, ours_same, same_ours}

-- ---- over any digest function

-- of a log's root our letters are written and accepted
passages_accepted : {digest : List ℕ → List ℕ} {rs : List (List ℕ)} {bs : List ℕ} (k : Kept digest rs bs)
    → EveryPassageAccepted digest rs (log_root k) bs
passages_accepted {digest} {rs} {bs} k is q out room =
    let c = counts k in
    let l = ours digest rs bs is in
    let f : Checks digest (log_size rs) (log_root k) l =
    record {
      counted = λ z. omega (arith, c.number);
      wide = root_length k;
      passed = rw c.value (ours_passed k is q);
    } in
    record {
      written = ours_written k is q out room;
      accepted = rw (ours_indexes k is q, ours_records k is q) at (checks_accepted digest (log_size rs) (log_root k) l f);
    }

module _ (digest : List ℕ → List ℕ) (digest_32 : (x : List ℕ) → length (digest x) ≡ 32) where
  -- the letters that we write are accepted
  pub passage_accepted_over : PassageAccepted digest
  passage_accepted_over = of_every_log digest digest_32 (EveryPassageAccepted digest) (λ rs bs k. passages_accepted k)

  -- accepted bytes are our letter, or the finder's own two strings have one digest
  pub accepted_passage_is_ours_over : AcceptedPassageIsOurs digest
  accepted_passage_is_ours_over = of_every_log digest digest_32 (EveryAcceptedEnds digest) (λ rs bs k. accepted_ends k)

  -- the other direction
  pub ours_is_same_over : OursIsSame digest
  ours_is_same_over = of_every_log digest digest_32 (EveryOursSame digest) (λ rs bs k. ours_same k)

  pub same_is_ours_over : SameIsOurs digest
  same_is_ours_over = of_every_log digest digest_32 (EverySameOurs digest) (λ rs bs k. same_ours k)

  -- what the finder names does collide, whatever it was given
  pub found_named_over : FoundNamed digest
  unfolding find_outcome
  found_named_over size bs records lengths letter first second =
      named_found digest digest_32 (node_in bs) (node_length bs) (length bs under 32 * size) size records lengths letter first second

  -- a log has one letter for a request, whatever stands in a buffer beyond its nodes
  pub one_passage_over : OnePassage digest
  one_passage_over rs bs cs g b c is q =
      letter_own (kept digest digest_32 rs bs g b) is q (records_at rs is) ∙ sym (letter_own (kept digest digest_32 rs cs g c) is q (records_at rs is))

  -- accepted bytes name a request, and the calls hand back what they name and hold
  pub accepted_handed_over : AcceptedHanded digest
  accepted_handed_over size root letter z =
      let c = accepted_checks digest size root letter z in
      (passed_request digest size (leaves size) root letter c.passed, checks_accepted digest size root letter c)

-- ---- for BLAKE3, plain or keyed

pub passage_accepted : (mode : List ℕ) → PassageAccepted (digest_in mode)
passage_accepted mode = passage_accepted_over (digest_in mode) (digest_length mode)

pub accepted_passage_is_ours : (mode : List ℕ) → AcceptedPassageIsOurs (digest_in mode)
accepted_passage_is_ours mode = accepted_passage_is_ours_over (digest_in mode) (digest_length mode)

pub ours_is_same : (mode : List ℕ) → OursIsSame (digest_in mode)
ours_is_same mode = ours_is_same_over (digest_in mode) (digest_length mode)

pub same_is_ours : (mode : List ℕ) → SameIsOurs (digest_in mode)
same_is_ours mode = same_is_ours_over (digest_in mode) (digest_length mode)

pub found_named : (mode : List ℕ) → FoundNamed (digest_in mode)
found_named mode = found_named_over (digest_in mode) (digest_length mode)

pub one_passage : (mode : List ℕ) → OnePassage (digest_in mode)
one_passage mode = one_passage_over (digest_in mode) (digest_length mode)

pub accepted_handed : (mode : List ℕ) → AcceptedHanded (digest_in mode)
accepted_handed mode = accepted_handed_over (digest_in mode) (digest_length mode)
