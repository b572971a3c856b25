-- Two inputs side by side: how they differ by their halves, and the first difference of two lists with them in front.
use mathlib.Core.Path.{◌≡◌, refl, sym, ap, ◌∙◌}
use mathlib.Core.Logic.{◌≢◌}
use mathlib.Core.List.{List, ◌∷◌, ◌++◌}
use Prim.Native.Nat.{ℕ}
use lib.ListN.{length}
use Rattle.std.specs.Prelude.{Bool, true, false}
use Rattle.wire.specs.Slices.{bit, differ}
use Rattle.wire.proofs.Differences.{differ_same, differ_other, same_of_differ}
use Rattle.shape.specs.Difference.{decided, difference}
use Rattle.shape.proofs.Difference.{difference_same, difference_other}
use Rattle.shape.proofs.Bind.{fronts, backs}
use Rattle.inputs.specs.Inputs.{beside, above}

-- two inputs differ by their left halves, where these do,
pub apart_left : (l r x y : List ℕ) → length l ≡ length x → differ l x ≢ 0 → differ l x ≡ differ (l ++ r) (x ++ y)
apart_left l r x y n h = elim (decided l x) [
  | yes e ↦ absurd (h (differ_same l x e))
  | no e ↦ differ_other l x e ∙ sym (differ_other _ _ (λ f. e (fronts l r x y n f)))
]

-- and by the right ones, where the left ones are the same
pub apart_right : (l r x y : List ℕ) → differ l x ≡ 0 → differ r y ≡ differ (l ++ r) (x ++ y)
apart_right l r x y z =
    let e : l ≡ x = same_of_differ l x z in
    elim (decided r y) [
      | yes f ↦ differ_same r y f ∙ sym (differ_same _ _ (rw (e, f)))
      | no f ↦ differ_other r y f ∙ sym (differ_other _ _ (λ g. f (backs l r x y (ap length e) g)))
    ]

-- a digest beside one that is it, where the two aren't apart
pub beside_known : (apart : Bool) (own other : List ℕ) → (apart ≡ false → other ≡ own) → beside apart own other ≡ own
beside_known true own other h = refl
beside_known false own other h = h refl

module _ (a b : List ℕ) where
  -- the digest of one beside the other's is its own
  pub beside_own : (digest : List ℕ → List ℕ) (apart : Bool) (other : List ℕ) → bit apart ≡ differ a b → other ≡ digest b
      → beside apart (digest a) other ≡ digest a
  beside_own digest true other e o = refl
  beside_own digest false other e o = o ∙ ap digest (sym (same_of_differ a b (sym e)))

  -- two lists with one input more in front
  pub above_is : (xs ys : List (List ℕ)) → above (differ a b) a b (difference xs ys) ≡ difference (a ∷ xs) (b ∷ ys)
  above_is xs ys = elim (decided a b) [
    | yes e ↦ rw (differ_same a b e) (sym (difference_same a b xs ys e))
    | no e ↦ rw (differ_other a b e) (sym (difference_other a b xs ys e))
  ]
