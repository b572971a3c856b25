-- Our letter of a log's own records, over any digest function: its digests, its fields, and the tree that it shows.
use mathlib.Core.Path.{◌≡◌, sym, ap, ◌∙◌}
use mathlib.Core.List.{List, map}
use Prim.Native.Nat.{ℕ}
use lib.ListN.{length, length-map}
use Rattle.shape.specs.Sizes.{leaves}
use Rattle.shape.specs.Tree.{root}
use Rattle.shape.specs.Folded.{tree}
use Rattle.nodes.specs.Nodes.{node_in}
use Rattle.views.specs.View.{givens, plant}
use Rattle.views.specs.Passage.{passage, passage_gives}
use Rattle.views.proofs.Letters.{gives_of_32}
use Rattle.views.proofs.Passing.{passage_exact, passage_gives_lem, passage_complete}
use Rattle.letter_promise.specs.Terms.{log_size}
use Rattle.passage.specs.Bytes.{passage_bytes, indexes_in, records_in, digests_in}
use Rattle.passage.specs.Request.{Request}
use Rattle.passage.specs.Digests.{digest_count, digests_of, letter_tree, worked_root}
use Rattle.passage.proofs.Digests.{within_yes, count_is}
use Rattle.passage_fields.proofs.Reading.{Parts, indexes_read, records_read, digests_read, fields_pass}
use Rattle.passage_writer.specs.Outcome.{our_passage}
use Rattle.passage_promise.specs.Terms.{records_at}
use Rattle.passage_promise.specs.Promise.{ours}
use Rattle.letter_promise.proofs.Kept.{Kept, log_root, counts, size_small, log_32}
use Rattle.passage_promise.proofs.Short.{own_short}
use Rattle.passage_promise.proofs.Checked.{Passed}

module _ {digest : List ℕ → List ℕ} {rs : List (List ℕ)} {bs : List ℕ} (k : Kept digest rs bs) where
  -- the log's own digests for these indexes
  abbrev pub own_digests : List ℕ → List (List ℕ)
  own_digests is = passage_gives digest rs is

  module _ (is : List ℕ) (q : Request (length rs) is) where
    abbrev own : List (List ℕ)
    own = records_at rs is

    pub own_many : length own ≡ length is
    own_many = length-map is _

    -- as many digests as the letter has
    pub count_own : digest_count (length rs) is ≡ givens (passage (length rs) is)
    count_own = count_is (length rs) is k.log.some k.log.few q.few

    -- what the nodes give for the digests are those of the tree
    digests_at : digests_of digest (node_in bs) (length rs) is ≡ own_digests is
    unfolding digests_of
    digests_at =
        rw (within_yes (length rs) is k.log.some k.log.few q.few, digests_of)
        (passage_gives_lem digest rs is k.log.some q.rising (node_in bs) k.holds)

    digests_own : digests_of digest (node_in bs) (leaves (log_size rs)) is ≡ own_digests is
    digests_own = ap (λ (n : ℕ). digests_of digest (node_in bs) n is) (counts k).value ∙ digests_at

    -- so our letter for some records and these indexes has them, whatever stands in the buffer beyond the nodes
    pub letter_own : (ts : List (List ℕ)) → our_passage digest (log_size rs) is ts (node_in bs) ≡ passage_bytes (log_size rs) is ts (own_digests is)
    unfolding our_passage
    letter_own ts = ap (passage_bytes (log_size rs) is ts) digests_own

    is_spelt : ours digest rs bs is ≡ passage_bytes (log_size rs) is own (own_digests is)
    is_spelt = letter_own own

    -- each field is read where it was put
    parts : Parts (log_size rs) (length rs) is own (own_digests is)
    parts =
        record {
          size_fits = size_small k;
          few_leaves = k.log.few;
          request = q;
          one_each = own_many;
          short = own_short k 0 is q.rising;
          wide = gives_of_32 digest k.digest_32 (passage (length rs) is) (tree (map digest rs)) (log_32 k);
          exact = passage_exact digest rs is k.log.some q.rising ∙ sym count_own;
        }

    pub ours_indexes : indexes_in (ours digest rs bs is) ≡ is
    ours_indexes = ap indexes_in is_spelt ∙ indexes_read parts

    pub ours_records : records_in (ours digest rs bs is) ≡ own
    ours_records = ap records_in is_spelt ∙ records_read parts

    pub ours_digests : digests_in (digest_count (length rs) is) (ours digest rs bs is) ≡ own_digests is
    ours_digests = ap (digests_in (digest_count (length rs) is)) is_spelt ∙ digests_read parts

    -- the tree that it shows is that of the log's records and digests, and its root is the log's
    pub ours_tree : letter_tree digest (length rs) (ours digest rs bs is) ≡ plant (passage (length rs) is) (map digest own) (own_digests is)
    ours_tree = rw (ours_indexes, ours_records, ours_digests)

    ours_root : worked_root digest (length rs) (ours digest rs bs is) ≡ log_root k
    unfolding worked_root
    ours_root = ap (root digest) ours_tree ∙ passage_complete digest rs is k.log.some q.rising

    -- so it passes
    pub ours_passed : Passed digest (log_size rs) (length rs) (log_root k) (ours digest rs bs is)
    ours_passed = record { fields = rw is_spelt (fields_pass parts); rooted = sym ours_root }
