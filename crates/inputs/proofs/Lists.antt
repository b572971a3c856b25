-- Two given lists of inputs compared from the last input up.
use mathlib.Core.Path.{◌≡◌, sym, ap, ap₂, ◌∙◌}
use mathlib.Core.List.{List, ◌∷◌}
use Prim.Native.Nat.{ℕ, suc, ◌+◌, ◌-◌, ◌*◌, ◌^◌, ◌≤◌, ◌<◌}
use native.Mathlib.Omega.{arith}
use Rattle.wire.specs.Slices.{part, differ, rows_from}
use Rattle.shape.specs.Difference.{Diff, difference}
use Rattle.inputs.specs.declared.Input.{Input}
use Rattle.std.specs.Prelude.{Option, None}
use Rattle.inputs.specs.declared.Unequal.{Unequal}
use Rattle.inputs.specs.Given.{in_both, given_difference}
use Rattle.inputs.specs.Inputs.{bytes_of, above, told}
use Rattle.inputs.proofs.Differences.{above_is}

-- the first difference of the inputs from number k on, of m
pub record Compared (ours theirs : List ℕ) (m k : ℕ) (first : Option Unequal) : Type 0 where
  pub within : k ≤ m
  pub small : m ≤ 2 ^ 58
  pub first_is : told first ≡ difference (rows_from 64 (64 * k) (m - k) ours) (rows_from 64 (64 * k) (m - k) theirs)

module _ (ours theirs : List ℕ) where
  -- before any
  pub compared_none : (m : ℕ) → m ≤ 2 ^ 58 → Compared ours theirs m m None
  unfolding rows_from difference
  compared_none m s =
      let z : m - m ≡ 0 = omega arith in
      record { within = omega arith; small = s; first_is = sym (rw (z, rows_from)) }

  -- the input before
  from_before : (m k : ℕ) (bs : List ℕ) → 0 < k → k ≤ m
      → rows_from 64 (64 * (k - 1)) (m - (k - 1)) bs ≡ part (64 * (k - 1)) 64 bs ∷ rows_from 64 (64 * k) (m - k) bs
  unfolding rows_from
  from_before m k bs p q =
      let e : m - (k - 1) ≡ suc (m - k) = omega arith in
      let f : 64 * (k - 1) + 64 ≡ 64 * k = omega arith in
      rw (e, rows_from, f)

  pub compared_more : (a b : Input) {m k apart : ℕ} {d next : Option Unequal} → Compared ours theirs m k d → 0 < k
      → bytes_of a ≡ part (64 * (k - 1)) 64 ours → bytes_of b ≡ part (64 * (k - 1)) 64 theirs
      → apart ≡ differ (bytes_of a) (bytes_of b) → told next ≡ above apart (bytes_of a) (bytes_of b) (told d)
      → Compared ours theirs m (k - 1) next
  compared_more a b {m} {k} c p ea eb ed en =
      let xs = rows_from 64 (64 * k) (m - k) ours in
      let ys = rows_from 64 (64 * k) (m - k) theirs in
      record {
        within = omega (arith, c.within);
        small = c.small;
        first_is =
            en
            ∙ ap₂ (λ (x : ℕ) (y : Diff). above x (bytes_of a) (bytes_of b) y) ed c.first_is
            ∙ above_is (bytes_of a) (bytes_of b) xs ys
            ∙ ap₂ difference
            (ap {B = List (List ℕ)} (λ x. x ∷ xs) ea ∙ sym (from_before m k ours p c.within))
            (ap {B = List (List ℕ)} (λ x. x ∷ ys) eb ∙ sym (from_before m k theirs p c.within));
      }

  -- after all
  pub compared_all : {m k : ℕ} {d : Option Unequal} → Compared ours theirs m k d → k ≤ 0 → m ≡ in_both ours theirs → told d ≡ given_difference ours theirs
  unfolding given_difference
  compared_all {m} {k} c z e =
      let o : 64 * k ≡ 0 = omega arith in
      let u : m - k ≡ in_both ours theirs = omega arith in
      c.first_is ∙ ap₂ (λ (at j : ℕ). difference (rows_from 64 at j ours) (rows_from 64 at j theirs)) o u
