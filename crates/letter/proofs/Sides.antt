-- One more turn on the way up: the tree below it with the item at its side, and the digest of the two.
use mathlib.Core.Path.{◌≡◌, sym, ap, ap₂, ◌∙◌}
use mathlib.Core.List.{List, [], ◌∷◌, ◌++◌}
use Prim.Native.Nat.{ℕ, ◌+◌, ◌*◌}
use native.Mathlib.Omega.{arith}
use lib.ListN.{length}
use Rattle.wire.specs.Slices.{part, rows_from}
use Rattle.shape.specs.Tree.{Tree, tip, fork, Turn, left, right, past, root}
use Rattle.shape.specs.Sizes.{height_of}
use Rattle.shape.specs.Letter.{fill}
use Rattle.shape.specs.Way.{way_in, way}
use Rattle.letter.specs.Items.{item_count, tree_of}
use Rattle.wire.proofs.Rows.{digests_first, digests_but_last, digests_last, digests_but_first}

module _ (leaf : List ℕ) (bs : List ℕ) where
  -- the tree along a way, from the items from number `from` on
  abbrev pub tree_by : List Turn → ℕ → Tree
  tree_by w from = fill w leaf (rows_from 32 (32 * from) (length w) bs)

  -- at a turn the last item is its side, and the others are for what is below; past a peak the first item is
  module _ (from : ℕ) {v w : List Turn} where
    pub tree_left : v ≡ left ∷ w → {used : ℕ} → used ≡ length w → tree_by v from ≡ fork (tree_by w from) (tip (part (32 * (from + used)) 32 bs))
    tree_left e u =
        ap (λ (t : List Turn). tree_by t from) e
        ∙ ap₂ (λ (xs : List (List ℕ)) (x : List ℕ). fork (fill w leaf xs) (tip x))
        (digests_but_last from (length w) bs) (digests_last from (length w) bs u)

    pub tree_right : v ≡ right ∷ w → {used : ℕ} → used ≡ length w → tree_by v from ≡ fork (tip (part (32 * (from + used)) 32 bs)) (tree_by w from)
    tree_right e u =
        ap (λ (t : List Turn). tree_by t from) e
        ∙ ap₂ (λ (xs : List (List ℕ)) (x : List ℕ). fork (tip x) (fill w leaf xs))
        (digests_but_last from (length w) bs) (digests_last from (length w) bs u)

    pub tree_past : v ≡ past ∷ w → tree_by v from ≡ fork (tip (part (32 * from) 32 bs)) (tree_by w (from + 1))
    tree_past e =
        ap (λ (t : List Turn). tree_by t from) e
        ∙ ap₂ (λ (xs : List (List ℕ)) (x : List ℕ). fork (tip x) (fill w leaf xs))
        (digests_but_first from (length w) bs) (digests_first (32 * from) (length w) bs)

module _ (digest : List ℕ → List ℕ) (leaf : List ℕ) (bs : List ℕ) where
  -- its root
  abbrev pub root_by : List Turn → ℕ → List ℕ
  root_by w from = root digest (tree_by leaf bs w from)

  -- no turn: the leaf itself
  pub side_none : (v : List Turn) (from : ℕ) → v ≡ [] → (0 ≡ length v) × (leaf ≡ root_by v from)
  side_none v from e = (sym (ap length e), sym (ap (λ (u : List Turn). root_by u from) e))

  module _ (from : ℕ) {v w : List Turn} {used all : ℕ} {d low side : List ℕ} where
    pub side_left : v ≡ left ∷ w → (used ≡ length w) × (low ≡ root_by w from) → side ≡ part (32 * (from + used)) 32 bs
        → (all ≡ used + 1) × (d ≡ digest (low ++ side)) → (all ≡ length v) × (d ≡ root_by v from)
    side_left e l s p = (
      omega (arith, l.0, p.0, ap length e),
      p.1 ∙ ap₂ (λ (x y : List ℕ). digest (x ++ y)) l.1 s ∙ sym (ap (root digest) (tree_left leaf bs from e l.0)),
    )

    pub side_right : v ≡ right ∷ w → (used ≡ length w) × (low ≡ root_by w from) → side ≡ part (32 * (from + used)) 32 bs
        → (all ≡ used + 1) × (d ≡ digest (side ++ low)) → (all ≡ length v) × (d ≡ root_by v from)
    side_right e l s p = (
      omega (arith, l.0, p.0, ap length e),
      p.1 ∙ ap₂ (λ (x y : List ℕ). digest (x ++ y)) s l.1 ∙ sym (ap (root digest) (tree_right leaf bs from e l.0)),
    )

    pub side_past : v ≡ past ∷ w → (used ≡ length w) × (low ≡ root_by w (from + 1)) → side ≡ part (32 * from) 32 bs
        → (all ≡ used + 1) × (d ≡ digest (side ++ low)) → (all ≡ length v) × (d ≡ root_by v from)
    side_past e l s p = (
      omega (arith, l.0, p.0, ap length e),
      p.1 ∙ ap₂ (λ (x y : List ℕ). digest (x ++ y)) s l.1 ∙ sym (ap (root digest) (tree_past leaf bs from e)),
    )

  -- the whole way, from the height of n leaves down, with a record's digest for the leaf
  pub side_whole : (n i : ℕ) (rec : List ℕ) {h : ℕ} {d : List ℕ} → h ≡ height_of n → leaf ≡ digest rec → d ≡ root_by (way_in h n i) 0
      → d ≡ root digest (tree_of digest n i rec (rows_from 32 0 (item_count n i) bs))
  unfolding item_count way
  side_whole n i rec eh el ed =
      ed ∙ ap (λ (h : ℕ). root_by (way_in h n i) 0) eh
      ∙ ap (λ (l : List ℕ). root digest (fill (way n i) l (rows_from 32 0 (length (way n i)) bs))) el
