-- The items of an index, over any digest function and any nodes: how many they are, and never more than 32; that each has 32 bytes, and that from a
-- log's nodes they are the log's.
use mathlib.Core.Path.{◌≡◌, sym, ap, ◌∙◌}
use mathlib.Core.Logic.{by_cases}
use mathlib.Core.List.{List, [], ◌∷◌, ◌++◌, map, map-append}
use Prim.Native.Nat.{ℕ, zero, suc, ◌-◌, ◌*◌, ◌^◌, ◌≤◌, ◌<◌}
use native.Mathlib.Decide.{dec_le, dec_lt}
use native.Mathlib.Omega.{arith}
use borrow.Author.Tests.{lt-ltb, le-ltb, le-leb, lt-leb}
use lib.ListN.{length, length-map}
use Rattle.shape.specs.Sizes.{size_of, height_of, leaves}
use Rattle.wire.specs.Slices.{Each, joined}
use Rattle.shape.specs.Folded.{tree}
use Rattle.shape.specs.Nodes.{Holds, nodes}
use Rattle.shape.specs.Positions.{top, behind, peaks_in, alone, positions_in, item_positions, fold}
use Rattle.shape.specs.Letter.{items}
use Rattle.shape.specs.Way.{way}
use Rattle.wire.proofs.Each.{each_append}
use Rattle.shape.proofs.Counting.{counts_known}
use Rattle.shape.proofs.Heights.{height_holds}
use Rattle.shape.proofs.Ways.{way_at_most}
use Rattle.shape.proofs.Peaks.{peaks_some}
use Rattle.shape.proofs.Positions.{positions_one, positions_low, positions_left, positions_right, positions_past}
use Rattle.shape.proofs.Reading.{fold_length, items_read, positions_length}
use Rattle.shape.proofs.Inside.{items_local}
use Rattle.wire.proofs.Joined.{joined_length}
use Rattle.letter.specs.Items.{item_count, most_items, ItemsAtMost, items_of}

-- as many as RULES 9.2 lists
pub items_counted : (n i : ℕ) → i < n → length (item_positions n i) ≡ item_count n i
unfolding item_count
items_counted n i p = positions_length n i p

-- for a leaf count within the limits at most 32, whatever the index
pub count_at_most : (n i : ℕ) → n ≤ 2 ^ 32 → item_count n i ≤ most_items
unfolding item_count
count_at_most n i q = way_at_most 32 n i q

pub items_at_most : ItemsAtMost
items_at_most size i known p = rw (items_counted (leaves size) i p) (count_at_most (leaves size) i (counts_known size known).most)

module _ (digest : List ℕ → List ℕ) (node : ℕ → List ℕ) where
  -- the items of leaf i of n leaves, n at most 2^h, whose nodes begin at position s
  abbrev pub items_from : ℕ → ℕ → ℕ → ℕ → List (List ℕ)
  items_from h n i s = map (fold digest node) (positions_in (suc h) n i s)

  -- within the limits
  pub items_of_lem : (n i : ℕ) → i < n → n ≤ 2 ^ 32 → items_of digest node n i ≡ items_from (height_of n) n i 0
  unfolding items_of item_positions
  items_of_lem n i p q = rw (lt-ltb i n p, le-leb n (2 ^ 32) q, items_of)

  -- beyond them there are none
  pub items_none : (n i : ℕ) → (i < n → n ≤ 2 ^ 32 → ⊥) → items_of digest node n i ≡ []
  unfolding items_of
  items_none n i h =
      by_cases (dec_lt i n)
      (λ a. rw (lt-ltb i n a, lt-leb n (2 ^ 32) (by_cases (dec_lt (2 ^ 32) n) (λ b. b) (λ b. absurd (h a (omega arith)))), items_of))
      (λ a. rw (le-ltb i n (omega arith), items_of))

  pub items_length : (n i : ℕ) → i < n → n ≤ 2 ^ 32 → length (items_of digest node n i) ≡ item_count n i
  unfolding item_positions
  items_length n i p q = ap length (items_of_lem n i p q) ∙ length-map (item_positions n i) (fold digest node) ∙ items_counted n i p

  -- from a log's nodes
  pub items_of_log : (ds : List (List ℕ)) (i : ℕ) → i < length ds → length ds ≤ 2 ^ 32 → Holds node 0 (nodes digest ds)
      → items_of digest node (length ds) i ≡ items digest (tree ds) (way (length ds) i)
  unfolding item_positions
  items_of_log ds i p q f = items_of_lem (length ds) i p q ∙ items_read digest node ds i p f

  module _ (digest_32 : (x : List ℕ) → length (digest x) ≡ 32) (node-32 : (p : ℕ) → length (node p) ≡ 32) where
    -- one more behind those that have 32 bytes
    behind_each : (ps : List (List ℕ)) (p : List ℕ) → 0 < length p → Each 32 (map (fold digest node) ps)
        → Each 32 (map (fold digest node) (ps ++ (p ∷ [])))
    behind_each ps p q a =
        rw (map-append (fold digest node) ps (p ∷ []))
        (each_append 32 (map (fold digest node) ps) (fold digest node p ∷ []) a (fold_length digest node digest_32 node-32 p q, tt))

    pub from_each : (h n i s : ℕ) → i < n → n ≤ 2 ^ h → Each 32 (items_from h n i s)
    from_each zero n i s p q = rw (positions_one n i s q p) tt
    from_each (suc h) n i s p q =
        by_cases (dec_le n (2 ^ h))
        (λ a. rw (positions_low h n i s a) (from_each h n i s p a))
        (λ a. by_cases (dec_lt i (2 ^ h))
        (λ c.
        rw (positions_left h n i s (omega arith) q c)
        (behind_each (positions_in (suc h) (2 ^ h) i s) (peaks_in (suc h) (n - 2 ^ h) (behind h s))
        (peaks_some (suc h) (n - 2 ^ h) (behind h s) (omega arith) (omega arith)) (from_each h (2 ^ h) i s c (omega arith))))
        (λ c. by_cases (dec_lt n (2 ^ suc h))
        (λ k.
        rw (positions_past h n i s (omega arith) k (omega arith))
        (node-32 (top h s), from_each h (n - 2 ^ h) (i - 2 ^ h) (behind h s) (omega arith) (omega arith)))
        (λ k.
        rw (positions_right h n i s (omega arith) (omega arith) p)
        (behind_each (positions_in (suc h) (n - 2 ^ h) (i - 2 ^ h) (behind h s)) (alone (top h s)) (omega arith)
        (from_each h (n - 2 ^ h) (i - 2 ^ h) (behind h s) (omega arith) (omega arith))))))

    pub items_each : (n i : ℕ) → i < n → n ≤ 2 ^ 32 → Each 32 (items_of digest node n i)
    items_each n i p q = rw (items_of_lem n i p q) (from_each (height_of n) n i 0 p (height_holds n))

    pub items_bytes : (n i : ℕ) → i < n → n ≤ 2 ^ 32 → length (joined (items_of digest node n i)) ≡ 32 * item_count n i
    items_bytes n i p q = joined_length (items_of digest node n i) (items_each n i p q) ∙ ap (λ (k : ℕ). 32 * k) (items_length n i p q)

-- any nodes that agree below the size give the same items
pub items_of_local : (digest : List ℕ → List ℕ) (f g : ℕ → List ℕ) (n i : ℕ) → i < n → n ≤ 2 ^ 32 → ((p : ℕ) → p < size_of n → f p ≡ g p)
    → items_of digest f n i ≡ items_of digest g n i
unfolding item_positions
items_of_local digest f g n i p q e = items_of_lem digest f n i p q ∙ items_local digest f g n e i p ∙ sym (items_of_lem digest g n i p q)
