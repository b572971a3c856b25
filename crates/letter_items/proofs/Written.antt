-- The items of an index, written whole or not at all.
use mathlib.Core.Path.{◌≡◌, sym, ap, ◌∙◌}
use mathlib.Core.Logic.{by_cases}
use mathlib.Core.List.{List, []}
use Prim.Native.Nat.{ℕ, suc, ◌+◌, ◌*◌, ◌^◌, ◌≤◌, ◌<◌}
use native.Mathlib.Decide.{dec_le}
use native.Mathlib.Omega.{arith}
use lib.ListN.{length}
use lib.Pow.{pow_mono}
use Rattle.digest.specs.Digest.{digest_in, digest_length}
use Rattle.wire.specs.Slices.{written, joined}
use Rattle.wire.proofs.Splices.{splice_none, written_fits, written_short}
use Rattle.shape.specs.Sizes.{height_of}
use Rattle.shape.specs.Positions.{positions_in, item_positions}
use Rattle.shape.proofs.Heights.{height_holds, height_least}
use Rattle.nodes.specs.Nodes.{node_in}
use Rattle.nodes.proofs.Joined.{node_length}
use Rattle.letter.specs.Items.{item_count, items_of}
use Rattle.letter.proofs.ItemsOf.{items_counted, items_from, items_of_lem, items_none, items_bytes}
use Rattle.letter_items.proofs.Putting.{Room, Put}

module _ (mode bs d : List ℕ) (at n i : ℕ) where
  -- an index that has no items
  pub written_none : (i < n → n ≤ 2 ^ 32 → ⊥) → d ≡ written at (joined (items_of (digest_in mode) (node_in bs) n i)) d
  unfolding joined
  written_none h =
      rw (items_none (digest_in mode) (node_in bs) n i h)
      (by_cases (dec_le (at + 0) (length d)) (λ a. sym (written_fits at [] d a ∙ splice_none at d)) (λ a. sym (written_short at [] d (omega arith))))

  module _ (p : i < n) (q : n ≤ 2 ^ 32) where
    long : length (joined (items_of (digest_in mode) (node_in bs) n i)) ≡ 32 * item_count n i
    long = items_bytes (digest_in mode) (node_in bs) (digest_length mode) (node_length bs) n i p q

    -- no room for them
    pub written_cut : length d < at + 32 * item_count n i → d ≡ written at (joined (items_of (digest_in mode) (node_in bs) n i)) d
    written_cut h = sym (written_short at (joined (items_of (digest_in mode) (node_in bs) n i)) d (omega (arith, long)))

    module _ (h : ℕ) (e : h ≡ height_of n) (room : at + 32 * item_count n i ≤ length d) where
      counted : length (positions_in (suc h) n i 0) ≡ item_count n i
      unfolding item_positions
      counted = ap (λ (k : ℕ). length (positions_in (suc k) n i 0)) e ∙ items_counted n i p

      -- all from the height of n leaves down
      pub written_room : Room h n i 0 at (length d)
      written_room =
          let low : height_of n ≤ 32 = height_least n 32 q in
          let k : 2 ^ h ≤ 2 ^ 32 = pow_mono {i = h} {j = 32} (omega arith) in
          (omega arith, p, rw e (height_holds n), omega arith, omega (arith, counted))

      pub written_all : {next : ℕ} {last : List ℕ} → Put mode bs h n i 0 at d next last
          → last ≡ written at (joined (items_of (digest_in mode) (node_in bs) n i)) d
      written_all r =
          let s : items_from (digest_in mode) (node_in bs) h n i 0 ≡ items_of (digest_in mode) (node_in bs) n i =
          ap (λ (k : ℕ). items_from (digest_in mode) (node_in bs) k n i 0) e ∙ sym (items_of_lem (digest_in mode) (node_in bs) n i p q) in
          rw s at r.1 ∙ sym (written_fits at (joined (items_of (digest_in mode) (node_in bs) n i)) d (omega (arith, long)))
