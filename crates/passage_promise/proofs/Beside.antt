-- A passage letter beside the single letter: no bytes are accepted as both, and of a log's own letters each is the other with its digests in the
-- other order. Over any digest function with digests of 32 bytes, and for BLAKE3 in every mode.
use mathlib.Core.Logic.{◌≢◌}
use mathlib.Core.Path.{◌≡◌, sym, ap, ap₂, ◌∙◌}
use mathlib.Core.List.{List, [], ◌∷◌, map}
use Prim.Native.Nat.{ℕ, ◌*◌, ◌+◌, ◌^◌, ◌≤◌, ◌<◌}
use native.Mathlib.Omega.{arith}
use lib.ListN.{length, length-map}
use Rattle.digest.specs.Digest.{digest_in, digest_length}
use Rattle.wire.specs.Numbers.{number}
use Rattle.wire.specs.Slices.{part}
use Rattle.wire.proofs.Numbers.{number_append}
use Rattle.wire.proofs.Parts.{part_add, part_length}
use Rattle.shape.specs.Sizes.{count_answer, leaves}
use Rattle.shape.specs.Tree.{Turn}
use Rattle.shape.specs.Way.{way}
use Rattle.shape.proofs.Counting.{counts_known}
use Rattle.nodes.specs.Nodes.{node_in}
use Rattle.nodes.proofs.Joined.{node_length}
use Rattle.views.specs.One.{walk_order, letter_order}
use Rattle.views.specs.View.{plant}
use Rattle.views.specs.Passage.{passage}
use Rattle.views.proofs.One.{letter_walk, one_fill, one_gives}
use Rattle.letter.specs.Bytes.{letter_bytes, index_in, items_in}
use Rattle.letter.specs.Items.{item_count, items_of, letter_tree as singleTree}
use Rattle.letter.proofs.ItemsOf.{items_of_log, items_length, items_each}
use Rattle.letter_writer.specs.Outcome.{our_letter}
use Rattle.letter_checker.specs.Outcome.{check_outcome as checkSingle}
use Rattle.letter_checker.proofs.Accepted.{accepted_of}
use Rattle.letter_promise.specs.Terms.{log_size, record_at}
use Rattle.letter_promise.specs.Promise.{ours as ourSingle}
use Rattle.passage.specs.Bytes.{passage_bytes, count_in, digests_in}
use Rattle.passage.specs.Request.{Request}
use Rattle.passage.specs.Digests.{digest_count, letter_tree}
use Rattle.passage_checker.specs.Outcome.{check_outcome}
use Rattle.passage_fields.proofs.Places.{indexes_count}
use Rattle.passage_promise.specs.Promise.{ours}
use Rattle.passage_promise.specs.Beside.{KindsTold, KindsApart, as_single, as_passage, OneShows, OneToSingle, SingleToOne}
use Rattle.letter_promise.proofs.Kept.{Kept, kept, counts, record_short}
use Rattle.passage_promise.proofs.Ours.{own_digests, letter_own, ours_digests, ours_tree}
use Rattle.passage_promise.proofs.Checked.{passed_request, accepted_checks}
use Rattle.passage_promise.proofs.Orders.{Digests}
use Rattle.passage_promise.proofs.Single.{single_items, single_tree, one_to_single_over, single_to_one_over}

-- ---- no bytes are both

-- bytes 8 and 9 begin the index, and are the number of records
counted_first : (letter : List ℕ) → index_in letter ≡ count_in letter * 256 ^ 6 + number (part 10 6 letter)
unfolding index_in count_in
counted_first letter =
    ap number (part_add 8 2 6 letter) ∙ number_append (part 8 2 letter) (part 10 6 letter)
    ∙ ap (λ (k : ℕ). number (part 8 2 letter) * 256 ^ k + number (part 10 6 letter)) (part_length 10 6 letter)

module _ (digest : List ℕ → List ℕ) (size : ℕ) (root letter : List ℕ) where
  single_none : (checkSingle digest size root letter).number ≡ 0 → count_in letter ≡ 0
  single_none z =
      let a = (accepted_of digest size root letter z).0 in
      omega (arith, a.fits.inside, (counts_known size a.counted).most, counted_first letter)

  passage_some : (check_outcome digest size root letter).number ≡ 0 → count_in letter ≢ 0
  passage_some z e =
      let q = passed_request digest size (leaves size) root letter (accepted_checks digest size root letter z).passed in
      omega (arith, q.some, indexes_count letter)

pub kinds_told_over : (digest : List ℕ → List ℕ) → KindsTold digest
kinds_told_over digest size root letter = (single_none digest size root letter, passage_some digest size root letter)

pub kinds_apart_over : (digest other : List ℕ → List ℕ) → KindsApart digest other
kinds_apart_over digest other letter size root z new-size new-root y =
    passage_some other new-size new-root letter y (single_none digest size root letter z)

-- ---- a log's own letters

module _ {digest : List ℕ → List ℕ} {rs : List (List ℕ)} {bs : List ℕ} (k : Kept digest rs bs) (i : ℕ) (p : i < length rs) where
  abbrev n : ℕ
  n = length rs

  abbrev w : List Turn
  w = way n i

  abbrev r : List ℕ
  r = record_at rs i

  abbrev xs : List (List ℕ)
  xs = items_of digest (node_in bs) n i

  q : Request n (i ∷ [])
  q = record { some = omega arith; few = omega arith; rising = (omega arith, p, tt) }

  digests : Digests w xs
  unfolding item_count
  digests =
      record {
        many = items_length digest (node_in bs) n i p k.log.few;
        each = items_each digest (node_in bs) k.digest_32 (node_length bs) n i p k.log.few;
      }

  -- the digests of the passage are the items in the walk's order
  gives : own_digests k (i ∷ []) ≡ walk_order w xs
  gives =
      let m : length (map digest rs) ≡ n = length-map rs digest in
      let e = one_gives digest (map digest rs) i (omega arith) in
      let f = items_of_log digest (node_in bs) (map digest rs) i (omega arith) (omega (arith, k.log.few)) k.holds in
      (rw m at e) ∙ ap (walk_order w) (sym (rw m at f))

  is_single : ourSingle digest rs bs i ≡ letter_bytes (log_size rs) i r xs
  unfolding our_letter
  is_single = ap (λ (m : ℕ). letter_bytes (log_size rs) i r (items_of digest (node_in bs) m i)) (counts k).value

  is_passage : ours digest rs bs (i ∷ []) ≡ passage_bytes (log_size rs) (i ∷ []) (r ∷ []) (walk_order w xs)
  is_passage = letter_own k (i ∷ []) q (r ∷ []) ∙ ap (passage_bytes (log_size rs) (i ∷ []) (r ∷ [])) gives

  known : (count_answer (log_size rs)).number ≡ 1 → ⊥
  known z = omega (arith, (counts k).number)

  inside : i < leaves (log_size rs)
  inside = omega (arith, (counts k).value)

  short : length r ≤ 16384
  short = record_short k i p

  at_size : Digests (way (leaves (log_size rs)) i) xs
  at_size = rw (counts k).value digests

  -- each letter is the other with its digests in the other order
  there : ours digest rs bs (i ∷ []) ≡ as_passage (log_size rs) i r (ourSingle digest rs bs i)
  there =
      let m = leaves (log_size rs) in
      let e : items_in (item_count m i) (ourSingle digest rs bs i) ≡ xs =
      ap (items_in (item_count m i)) is_single ∙ single_items digest (log_size rs) known i inside r short xs at_size in
      is_passage
      ∙ ap₂ (λ (l : ℕ) (zs : List (List ℕ)). passage_bytes (log_size rs) (i ∷ []) (r ∷ []) (walk_order (way l i) zs)) (sym (counts k).value) (sym e)

  back : ourSingle digest rs bs i ≡ as_single (log_size rs) i r (ours digest rs bs (i ∷ []))
  back =
      let l = ours digest rs bs (i ∷ []) in
      let e : letter_order w (digests_in (digest_count n (i ∷ [])) l) ≡ xs =
      ap (letter_order w) (ours_digests k (i ∷ []) q ∙ gives) ∙ letter_walk w xs digests.many in
      is_single ∙ ap (letter_bytes (log_size rs) i r) (sym e)
      ∙ ap (λ (m : ℕ). letter_bytes (log_size rs) i r (letter_order (way m i) (digests_in (digest_count m (i ∷ [])) l))) (sym (counts k).value)

  -- and both show one tree
  one_tree : letter_tree digest n (ours digest rs bs (i ∷ [])) ≡ singleTree digest n (ourSingle digest rs bs i)
  one_tree =
      ours_tree k (i ∷ []) q ∙ ap (plant (passage n (i ∷ [])) (digest r ∷ [])) gives ∙ one_fill n i p (digest r) xs
      ∙ sym (rw (counts k).value at (single_tree digest (log_size rs) known i inside r short xs at_size))
      ∙ ap (singleTree digest n) (sym is_single)

pub one_shows_over : (digest : List ℕ → List ℕ) → ((x : List ℕ) → length (digest x) ≡ 32) → OneShows digest
one_shows_over digest digest_32 rs g bs b i p = let k = kept digest digest_32 rs bs g b in (one_tree k i p, back k i p, there k i p)

-- ---- for BLAKE3, plain or keyed

pub kinds_told : (mode : List ℕ) → KindsTold (digest_in mode)
kinds_told mode = kinds_told_over (digest_in mode)

pub kinds_apart : (mode other : List ℕ) → KindsApart (digest_in mode) (digest_in other)
kinds_apart mode other = kinds_apart_over (digest_in mode) (digest_in other)

pub one_shows : (mode : List ℕ) → OneShows (digest_in mode)
one_shows mode = one_shows_over (digest_in mode) (digest_length mode)

pub one_to_single : (mode : List ℕ) → OneToSingle (digest_in mode)
one_to_single mode = one_to_single_over (digest_in mode)

pub single_to_one : (mode : List ℕ) → SingleToOne (digest_in mode)
single_to_one mode = single_to_one_over (digest_in mode)
