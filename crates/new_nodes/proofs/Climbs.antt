-- The nodes that are written, one height after the other, are the leaf and the parents above it.
use mathlib.Core.Path.{◌≡◌, refl, sym, ap, ap₂, ◌∙◌}
use mathlib.Core.List.{List, [], ◌∷◌, ◌++◌, append_assoc}
use Prim.Native.Nat.{ℕ, zero, suc, ◌+◌, ◌-◌, ◌^◌, ◌<◌}
use native.Mathlib.Nat.{add-zero, add-suc, zero-add}
use native.Mathlib.Omega.{arith}
use lib.ListN.{length, length-append}
use Rattle.digest.specs.Digest.{digest_in, digest_length}
use Rattle.shape.specs.Sizes.{size_of, trailing_ones}
use Rattle.wire.specs.Slices.{Each}
use Rattle.shape.specs.Nodes.{climb, new_nodes}
use Rattle.wire.proofs.Each.{each_append}
use Rattle.new_nodes.specs.Steps.{up, ups}

pub up_length : (mode : List ℕ) (left : ℕ → List ℕ) (j : ℕ) (x : List ℕ) → length x ≡ 32 → length (up mode left j x) ≡ 32
unfolding up
up_length mode left zero x e = e
up_length mode left (suc j) x e = digest_length mode (left j ++ up mode left j x)

pub ups_length : (mode : List ℕ) (left : ℕ → List ℕ) (m : ℕ) (x : List ℕ) → length (ups mode left m x) ≡ suc m
unfolding ups
ups_length mode left zero x = refl
ups_length mode left (suc m) x = length-append (ups mode left m x) (up mode left (suc m) x ∷ []) ∙ omega (arith, ups_length mode left m x)

pub ups_sized : (mode : List ℕ) (left : ℕ → List ℕ) (m : ℕ) (x : List ℕ) → length x ≡ 32 → Each 32 (ups mode left m x)
unfolding ups
ups_sized mode left zero x e = (e, tt)
ups_sized mode left (suc m) x e = each_append 32 (ups mode left m x) (up mode left (suc m) x ∷ []) (ups_sized mode left m x e) (up_length mode left (suc m) x e, tt)

-- what stands below height j
below : List ℕ → (ℕ → List ℕ) → ℕ → List ℕ → List (List ℕ)
below mode left zero x = []
below mode left (suc j) x = ups mode left j x

below_up : (mode : List ℕ) (left : ℕ → List ℕ) (j : ℕ) (x : List ℕ) → below mode left j x ++ (up mode left j x ∷ []) ≡ ups mode left j x
unfolding below up ups
below_up mode left zero x = refl
below_up mode left (suc j) x = refl

module _ (mode : List ℕ) (node left : ℕ → List ℕ) (s : ℕ) (x : List ℕ) where
  -- one height more
  climb_step : (k j : ℕ) → left j ≡ node (s + j - (2 ^ suc j - 1))
      → below mode left (suc j) x ++ climb (digest_in mode) node k (suc j) (s + suc j) (up mode left (suc j) x) ≡ ups mode left (suc j + k) x
      → below mode left j x ++ climb (digest_in mode) node (suc k) j (s + j) (up mode left j x) ≡ ups mode left (j + suc k) x
  unfolding below up climb
  climb_step k j e rest =
      sym (append_assoc (below mode left j x) (up mode left j x ∷ []) _)
      ∙ ap₂ (λ (a b : List (List ℕ)). a ++ b) (below_up mode left j x)
      (ap₂ (climb (digest_in mode) node k (suc j)) (sym (add-suc s j)) (ap (λ (y : List ℕ). digest_in mode (y ++ up mode left j x)) (sym e)))
      ∙ rest
      ∙ ap (λ (i : ℕ). ups mode left i x) (let z : suc j + k ≡ j + suc k = omega arith in z)

  -- k heights more
  climbs : (k j : ℕ) → ((i : ℕ) → i < j + k → left i ≡ node (s + i - (2 ^ suc i - 1)))
      → below mode left j x ++ climb (digest_in mode) node k j (s + j) (up mode left j x) ≡ ups mode left (j + k) x
  unfolding climb
  climbs zero j e = rw (add-zero j) (below_up mode left j x)
  climbs (suc k) j e = climb_step k j (e j (omega arith)) (climbs k (suc j) (λ i l. e i (omega arith)))

  -- all of them
  pub ups_climb : (m : ℕ) → ((i : ℕ) → i < m → left i ≡ node (s + i - (2 ^ suc i - 1)))
      → ups mode left m x ≡ climb (digest_in mode) node m 0 s x
  unfolding below up
  ups_climb m f =
      sym (climbs m 0 (λ i l. f i (omega arith)) ∙ ap (λ (i : ℕ). ups mode left i x) (zero-add m))
      ∙ ap (λ (p : ℕ). climb (digest_in mode) node m 0 p x) (add-zero s)

-- each new node has 32 bytes, whatever the digest function
module _ (digest : List ℕ → List ℕ) (digest_32 : (x : List ℕ) → length (digest x) ≡ 32) where
  pub climb_sized : (node : ℕ → List ℕ) (k j p : ℕ) (x : List ℕ) → length x ≡ 32 → Each 32 (climb digest node k j p x)
  unfolding climb
  climb_sized node zero j p x e = (e, tt)
  climb_sized node (suc k) j p x e = (e, climb_sized node k (suc j) (suc p) _ (digest_32 (node (p - (2 ^ suc j - 1)) ++ x)))

  pub new_sized : (node : ℕ → List ℕ) (n : ℕ) (x : List ℕ) → length x ≡ 32 → Each 32 (new_nodes digest node n x)
  unfolding new_nodes
  new_sized node n x e = climb_sized node (trailing_ones n) 0 (size_of n) x e
