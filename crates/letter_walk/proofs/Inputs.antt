-- What a letter hashes at a turn and below it: the input of the turn, then those of the rest of the way.
use mathlib.Core.Path.{◌≡◌, ap, ◌∙◌}
use mathlib.Core.List.{List, ◌∷◌, ◌++◌, append-nil}
use Prim.Native.Nat.{ℕ, ◌+◌, ◌*◌}
use lib.ListN.{length}
use Rattle.wire.specs.Slices.{part}
use Rattle.shape.specs.Tree.{Turn, left, right, past, inputs}
use Rattle.letter.proofs.Sides.{tree_by, root_by, tree_left, tree_right, tree_past}

module _ (digest : List ℕ → List ℕ) (leaf : List ℕ) (bs : List ℕ) (from used : ℕ) (v w : List Turn) (low side : List ℕ) where
  pub inputs_left : v ≡ left ∷ w → used ≡ length w → low ≡ root_by digest leaf bs w from → side ≡ part (32 * (from + used)) 32 bs
      → inputs digest (tree_by leaf bs v from) ≡ (low ++ side) ∷ inputs digest (tree_by leaf bs w from)
  inputs_left e u el es =
      ap (inputs digest) (tree_left leaf bs from e u) ∙ rw (append-nil (inputs digest (tree_by leaf bs w from)), el, es)

  pub inputs_right : v ≡ right ∷ w → used ≡ length w → low ≡ root_by digest leaf bs w from → side ≡ part (32 * (from + used)) 32 bs
      → inputs digest (tree_by leaf bs v from) ≡ (side ++ low) ∷ inputs digest (tree_by leaf bs w from)
  inputs_right e u el es = ap (inputs digest) (tree_right leaf bs from e u) ∙ rw (el, es)

  pub inputs_past : v ≡ past ∷ w → low ≡ root_by digest leaf bs w (from + 1) → side ≡ part (32 * from) 32 bs
      → inputs digest (tree_by leaf bs v from) ≡ (side ++ low) ∷ inputs digest (tree_by leaf bs w (from + 1))
  inputs_past e el es = ap (inputs digest) (tree_past leaf bs from e) ∙ rw (el, es)
