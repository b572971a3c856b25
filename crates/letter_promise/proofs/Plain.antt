-- The promise by the plain rule: what the rule makes of a log's records is what its nodes give, over any digest function with digests of 32 bytes.
use mathlib.Core.Path.{◌≡◌, sym, ap, ap₂, ◌∙◌}
use mathlib.Core.List.{List}
use Prim.Native.Nat.{ℕ, ◌*◌, ◌<◌}
use native.Mathlib.Omega.{arith}
use lib.ListN.{length}
use lib.Seq.{take_all}
use Rattle.digest.specs.Digest.{digest_in, digest_length}
use Rattle.shape.specs.Tree.{Tree, Turn}
use Rattle.shape.specs.Letter.{fill, items}
use Rattle.nodes.specs.Nodes.{nodes_of, Begins}
use Rattle.evidence_log.proofs.Grown.{nodes_bytes}
use Rattle.plain_rule.specs.Rule.{Split}
use Rattle.plain_rule.proofs.Folded.{plain_tree_lem, plain_root_lem, plain_turns}
use Rattle.letter.specs.Bytes.{letter_bytes, index_in, record_in, items_in}
use Rattle.letter.specs.Items.{item_count, letter_tree}
use Rattle.letter_promise.specs.Terms.{log_size, record_at, Accepted}
use Rattle.letter_promise.specs.Promise.{ours}
use Rattle.letter_promise.specs.Plain.{plain_letter, shown_tree, LetterAcceptedByRule, LetterWrittenByRule, AcceptedIsOursByRule}
use Rattle.letter_promise.proofs.Kept.{Kept, kept, log_root}
use Rattle.letter_promise.proofs.Ours.{letter_own}
use Rattle.letter_promise.proofs.Checked.{accepted_fits, letters_accepted}
use Rattle.letter_promise.proofs.Found.{accepted_ends}

module _ {digest : List ℕ → List ℕ} {rs : List (List ℕ)} {bs : List ℕ} (k : Kept digest rs bs) (s : Split rs) where
  -- the letter that the nodes give is the rule's
  ours_by_rule : (i : ℕ) → i < length rs → ours digest rs bs i ≡ plain_letter digest rs s i
  ours_by_rule i p =
      letter_own k i p (record_at rs i)
      ∙ ap₂ (λ (t : Tree) (w : List Turn). letter_bytes (log_size rs) i (record_at rs i) (items digest t w))
      (sym (plain_tree_lem digest s)) (sym (plain_turns s i))

  -- and so is the tree that bytes show
  shown_by_rule : (letter : List ℕ) → letter_tree digest (length rs) letter ≡ shown_tree digest rs s letter
  unfolding item_count
  shown_by_rule letter =
      ap (λ (w : List Turn). fill w (digest (record_in letter)) (items_in (length w) letter)) (sym (plain_turns s (index_in letter)))

module _ (digest : List ℕ → List ℕ) (digest_32 : (x : List ℕ) → length (digest x) ≡ 32) where
  -- the log's nodes are a buffer that begins with them
  own_begins : (rs : List (List ℕ)) → Begins digest (nodes_of digest rs) rs
  own_begins rs = take_all (32 * log_size rs) (nodes_of digest rs) (omega (arith, nodes_bytes digest digest_32 rs))

  -- the rule's letters are accepted ..
  pub letter_accepted_by_rule_over : LetterAcceptedByRule digest
  letter_accepted_by_rule_over rs g s i p =
      let k = kept digest digest_32 rs (nodes_of digest rs) g (own_begins rs) in
      let a = (letters_accepted k i p (ours digest rs (nodes_of digest rs) i) (omega arith)).accepted in
      rw (ours_by_rule k s i p, ← plain_root_lem digest s) at a

  -- .. they are written ..
  pub letter_written_by_rule_over : LetterWrittenByRule digest
  letter_written_by_rule_over rs g s i p bs b out room =
      let k = kept digest digest_32 rs bs g b in
      let e = ours_by_rule k s i p in
      rw e at (letters_accepted k i p out (omega (arith, ap length e))).written

  -- .. and what is accepted is the rule's letter, or the finder gives two strings
  pub accepted_is_ours_by_rule_over : AcceptedIsOursByRule digest
  accepted_is_ours_by_rule_over rs g s letter by i r a bs b first second u v =
      let k = kept digest digest_32 rs bs g b in
      let c : Accepted digest (log_size rs) (log_root k) letter i r = rw (plain_root_lem digest s) at a in
      let f = accepted_fits k c in
      rw (ours_by_rule k s i (omega (arith, f.0.inside, f.1)), ← plain_tree_lem digest s, shown_by_rule k s letter) at
      (accepted_ends k letter by i r c first second u v)

-- ---- for BLAKE3, plain or keyed

pub letter_accepted_by_rule : (mode : List ℕ) → LetterAcceptedByRule (digest_in mode)
letter_accepted_by_rule mode = letter_accepted_by_rule_over (digest_in mode) (digest_length mode)

pub letter_written_by_rule : (mode : List ℕ) → LetterWrittenByRule (digest_in mode)
letter_written_by_rule mode = letter_written_by_rule_over (digest_in mode) (digest_length mode)

pub accepted_is_ours_by_rule : (mode : List ℕ) → AcceptedIsOursByRule (digest_in mode)
accepted_is_ours_by_rule mode = accepted_is_ours_by_rule_over (digest_in mode) (digest_length mode)
