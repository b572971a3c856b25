-- Our letter of a log's own record, over any digest function: its items, its fields, and the tree that it shows.
use mathlib.Core.Path.{◌≡◌, sym, ap, ap₂, ◌∙◌}
use mathlib.Core.List.{List, map}
use Prim.Native.Nat.{ℕ, ◌^◌, ◌<◌}
use native.Mathlib.Omega.{arith}
use lib.ListN.{length}
use Rattle.wire.specs.Slices.{Each}
use Rattle.shape.specs.Tree.{root}
use Rattle.shape.specs.Letter.{fill}
use Rattle.shape.specs.Way.{way}
use Rattle.shape.proofs.Letters.{items_length, items_32, complete}
use Rattle.shape.specs.Sizes.{leaves}
use Rattle.nodes.specs.Nodes.{node_in}
use Rattle.letter.specs.Bytes.{letter_bytes, size_in, index_in, stated_in, record_in, items_in}
use Rattle.letter.specs.Items.{item_count, items_of, letter_tree, worked_root}
use Rattle.letter.specs.Checking.{exact_length}
use Rattle.letter.proofs.ItemsOf.{items_of_log}
use Rattle.letter.proofs.Spelling.{letter_length, size_read, index_read, stated_read, record_read, items_read_back}
use Rattle.letter_writer.specs.Outcome.{our_letter}
use Rattle.letter_promise.specs.Terms.{log_size, record_at}
use Rattle.letter_promise.specs.Promise.{ours}
use Rattle.letter_promise.proofs.Kept.{Kept, log_root, own_items, same_number, counts, size_small, log_32, record_short, leads}

module _ {digest : List ℕ → List ℕ} {rs : List (List ℕ)} {bs : List ℕ} (k : Kept digest rs bs) (i : ℕ) (p : i < length rs) where
  own_many : item_count (length rs) i ≡ length (own_items k i)
  unfolding item_count
  own_many = sym (items_length digest (leads k i p))

  own_32 : Each 32 (own_items k i)
  own_32 = items_32 digest k.digest_32 (leads k i p) (log_32 k)

  -- what the nodes give for the items are the items of the tree
  items_own : items_of digest (node_in bs) (leaves (log_size rs)) i ≡ own_items k i
  items_own =
      let m = same_number k in
      ap (λ (n : ℕ). items_of digest (node_in bs) n i) (counts k).value
      ∙ (rw m at (items_of_log digest (node_in bs) (map digest rs) i (omega arith) (omega (arith, k.log.few)) k.holds))

  -- so our letter for a record and the index i has them, whatever stands in the buffer beyond the nodes
  pub letter_own : (rec : List ℕ) → our_letter digest (log_size rs) i rec (node_in bs) ≡ letter_bytes (log_size rs) i rec (own_items k i)
  unfolding our_letter
  letter_own rec = ap (letter_bytes (log_size rs) i rec) items_own

  abbrev spelt : List ℕ
  spelt = letter_bytes (log_size rs) i (record_at rs i) (own_items k i)

  is_spelt : ours digest rs bs i ≡ spelt
  is_spelt = letter_own (record_at rs i)

  -- each field is read where it was put
  pub ours_size : size_in (ours digest rs bs i) ≡ log_size rs
  ours_size = ap size_in is_spelt ∙ size_read (log_size rs) i (record_at rs i) (own_items k i) (size_small k)

  pub ours_index : index_in (ours digest rs bs i) ≡ i
  ours_index = ap index_in is_spelt ∙ index_read (log_size rs) i (record_at rs i) (own_items k i) (omega (arith, k.log.few))

  rec_small : length (record_at rs i) < 256 ^ 4
  rec_small = omega (arith, record_short k i p)

  pub ours_stated : stated_in (ours digest rs bs i) ≡ length (record_at rs i)
  ours_stated = ap stated_in is_spelt ∙ stated_read (log_size rs) i (record_at rs i) (own_items k i) rec_small

  pub ours_record : record_in (ours digest rs bs i) ≡ record_at rs i
  ours_record = ap record_in is_spelt ∙ record_read (log_size rs) i (record_at rs i) (own_items k i) rec_small

  ours_items : items_in (item_count (length rs) i) (ours digest rs bs i) ≡ own_items k i
  ours_items =
      ap₂ items_in own_many is_spelt ∙ items_read_back (log_size rs) i (record_at rs i) (own_items k i) rec_small own_32

  pub ours_exact : length (ours digest rs bs i) ≡ exact_length (length rs) (ours digest rs bs i)
  ours_exact =
      let e : item_count (length rs) (index_in (ours digest rs bs i)) ≡ length (own_items k i) = ap (item_count (length rs)) ours_index ∙ own_many in
      ap length is_spelt ∙ letter_length (log_size rs) i (record_at rs i) (own_items k i) own_32 ∙ omega (arith, ours_stated)

  -- the tree that it shows is that of the log's leaf and items, and its root is the log's
  pub ours_tree : letter_tree digest (length rs) (ours digest rs bs i) ≡ fill (way (length rs) i) (digest (record_at rs i)) (own_items k i)
  ours_tree = rw (ours_index, ours_record, ours_items)

  pub ours_root : worked_root digest (length rs) (ours digest rs bs i) ≡ log_root k
  unfolding worked_root
  ours_root = ap (root digest) ours_tree ∙ complete digest (leads k i p)
