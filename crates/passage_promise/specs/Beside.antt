-- A passage letter beside the single letter, over any digest function: bytes 8 and 9 tell the kinds apart; and a passage of one index shows what the
-- single letter for that index shows.
use Rattle.std.specs.Prelude.{◌≢◌, ◌≡◌, List, [], ◌∷◌, ℕ, ◌<◌, length}
use Rattle.shape.specs.Sizes.{leaves}
use Rattle.shape.specs.Way.{way}
use Rattle.nodes.specs.Nodes.{Begins}
use Rattle.views.specs.One.{walk_order, letter_order}
use Rattle.letter.specs.Bytes.{letter_bytes, items_in}
use Rattle.letter.specs.Items.{item_count, letter_tree as singleTree}
use Rattle.letter_checker.specs.Outcome.{check_outcome as checkSingle}
use Rattle.letter_promise.specs.Terms.{Log, log_size, record_at, Accepted as SingleAccepted}
use Rattle.letter_promise.specs.Promise.{ours as ourSingle}
use Rattle.passage.specs.Bytes.{passage_bytes, count_in, digests_in}
use Rattle.passage.specs.Digests.{digest_count, letter_tree}
use Rattle.passage_checker.specs.Outcome.{check_outcome}
use Rattle.passage_promise.specs.Terms.{Accepted}
use Rattle.passage_promise.specs.Promise.{ours}

-- ---- two kinds

-- `kinds_told`: bytes 8 and 9, read as a number, are 0 where bytes are accepted as a single letter, since they begin an index below 2^32; and not 0
-- where they are accepted as a passage letter, since they are the number of its records
abbrev pub KindsTold : (List ℕ → List ℕ) → Type 0
KindsTold digest =
    (size : ℕ) (root letter : List ℕ)
    → ((checkSingle digest size root letter).number ≡ 0 → count_in letter ≡ 0) × ((check_outcome digest size root letter).number ≡ 0 → count_in letter ≢ 0)

-- `kinds_apart`: so no bytes are accepted as both, with any two sizes and roots, and under any two digest functions
abbrev pub KindsApart : (List ℕ → List ℕ) → (List ℕ → List ℕ) → Type 0
KindsApart digest other =
    (letter : List ℕ) (size : ℕ) (root : List ℕ) → (checkSingle digest size root letter).number ≡ 0
    → (new-size : ℕ) (new-root : List ℕ) → (check_outcome other new-size new-root letter).number ≢ 0

-- ---- one index

-- the single letter of index i and record r that has the digests of a passage letter, in the single letter's order
abbrev pub as_single : ℕ → ℕ → List ℕ → List ℕ → List ℕ
as_single size i r letter =
    let n = leaves size in letter_bytes size i r (letter_order (way n i) (digests_in (digest_count n (i ∷ [])) letter))

-- the passage letter of index i alone and record r that has the items of a single letter, in the walk's order
abbrev pub as_passage : ℕ → ℕ → List ℕ → List ℕ → List ℕ
as_passage size i r letter =
    let n = leaves size in passage_bytes size (i ∷ []) (r ∷ []) (walk_order (way n i) (items_in (item_count n i) letter))

module _ (digest : List ℕ → List ℕ) where
  -- `one_shows`: of every log and index, our passage letter for that index alone shows the tree that our single letter shows, and each is the other
  -- with its digests in the other order. Both are accepted with that index and the log's record there (`passage_accepted`, `letter_accepted`)
  abbrev pub OneShows : Type 0
  OneShows =
      (rs : List (List ℕ)) → Log rs → (bs : List ℕ) → Begins digest bs rs → (i : ℕ) → i < length rs
      → let r = record_at rs i in let passage = ours digest rs bs (i ∷ []) in let single = ourSingle digest rs bs i in
      (letter_tree digest (length rs) passage ≡ singleTree digest (length rs) single)
      × (single ≡ as_single (log_size rs) i r passage) × (passage ≡ as_passage (log_size rs) i r single)

  -- `one_to_single`: of any bytes, size and root: where a passage of one index is accepted, the single letter that has its digests is accepted too,
  -- with the same index and record, and shows the same tree ..
  abbrev pub OneToSingle : Type 0
  OneToSingle =
      (size : ℕ) (root letter : List ℕ) (i : ℕ) (r : List ℕ) → Accepted digest size root letter (i ∷ []) (r ∷ [])
      → let single = as_single size i r letter in
      SingleAccepted digest size root single i r × (singleTree digest (leaves size) single ≡ letter_tree digest (leaves size) letter)

  -- `single_to_one`: .. and the other way round
  abbrev pub SingleToOne : Type 0
  SingleToOne =
      (size : ℕ) (root letter : List ℕ) (i : ℕ) (r : List ℕ) → SingleAccepted digest size root letter i r
      → let passage = as_passage size i r letter in
      Accepted digest size root passage (i ∷ []) (r ∷ []) × (letter_tree digest (leaves size) passage ≡ singleTree digest (leaves size) letter)
