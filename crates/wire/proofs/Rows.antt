-- Digests in a row from a place on: how many, each of 32 bytes, the one at a place, parts of the row, and the row of digests that were joined.
use mathlib.Core.Path.{◌≡◌, refl, sym, ap, ap₂, ◌∙◌}
use mathlib.Core.List.{List, [], ◌∷◌, ◌++◌, append_assoc}
use Prim.Native.Nat.{ℕ, zero, suc, ◌+◌, ◌*◌, ◌≤◌, ◌<◌}
use native.Mathlib.Omega.{arith}
use lib.ListN.{length, get_or, take, drop, length-append}
use Rattle.wire.specs.Slices.{part, Each, joined, rows_from}
use Rattle.wire.proofs.Parts.{part_length, part_field, part_drop, part_add}

pub digests_length : (at k : ℕ) (bs : List ℕ) → length (rows_from 32 at k bs) ≡ k
unfolding rows_from
digests_length at zero bs = refl
digests_length at (suc k) bs = ap suc (digests_length (at + 32) k bs)

pub digests_each : (at k : ℕ) (bs : List ℕ) → Each 32 (rows_from 32 at k bs)
unfolding rows_from
digests_each at zero bs = tt
digests_each at (suc k) bs = (part_length at 32 bs, digests_each (at + 32) k bs)

-- number j of k digests in a row
pub digests_at : (at k : ℕ) (bs : List ℕ) (j : ℕ) → j < k → get_or (rows_from 32 at k bs) j [] ≡ part (at + 32 * j) 32 bs
unfolding rows_from
digests_at at zero bs j h = absurd (omega arith)
digests_at at (suc k) bs zero h = ap (λ (p : ℕ). part p 32 bs) (omega arith)
digests_at at (suc k) bs (suc j) h = digests_at (at + 32) k bs j (omega arith) ∙ ap (λ (p : ℕ). part p 32 bs) (omega arith)

-- ---- parts of the row

digests_take : (at j k : ℕ) (bs : List ℕ) → j ≤ k → take j (rows_from 32 at k bs) ≡ rows_from 32 at j bs
unfolding rows_from
digests_take at zero k bs h = refl
digests_take at (suc j) zero bs h = absurd (omega arith)
digests_take at (suc j) (suc k) bs h = ap (λ (ds : List (List ℕ)). part at 32 bs ∷ ds) (digests_take (at + 32) j k bs (omega arith))

-- the first, and all but the first
pub digests_first : (at k : ℕ) (bs : List ℕ) → get_or (rows_from 32 at (suc k) bs) 0 [] ≡ part at 32 bs
unfolding rows_from
digests_first at k bs = refl

digests_rest : (at k : ℕ) (bs : List ℕ) → drop 1 (rows_from 32 at (suc k) bs) ≡ rows_from 32 (at + 32) k bs
unfolding rows_from
digests_rest at k bs = refl

-- with one more from number `from` on: all but the last, the last, and all but the first
module _ (from k : ℕ) (bs : List ℕ) where
  pub digests_but_last : take k (rows_from 32 (32 * from) (suc k) bs) ≡ rows_from 32 (32 * from) k bs
  digests_but_last = digests_take (32 * from) k (suc k) bs (omega arith)

  pub digests_last : {used : ℕ} → used ≡ k → get_or (rows_from 32 (32 * from) (suc k) bs) k [] ≡ part (32 * (from + used)) 32 bs
  digests_last {used} u =
      let e : 32 * from + 32 * k ≡ 32 * (from + used) = omega arith in
      digests_at (32 * from) (suc k) bs k (omega arith) ∙ ap (λ (p : ℕ). part p 32 bs) e

  pub digests_but_first : drop 1 (rows_from 32 (32 * from) (suc k) bs) ≡ rows_from 32 (32 * (from + 1)) k bs
  digests_but_first =
      let e : 32 * from + 32 ≡ 32 * (from + 1) = omega arith in
      digests_rest (32 * from) k bs ∙ ap (λ (p : ℕ). rows_from 32 p k bs) e

-- the row behind other bytes
pub digests_drop : (at k n : ℕ) (bs : List ℕ) → rows_from 32 at k (drop n bs) ≡ rows_from 32 (n + at) k bs
unfolding rows_from
digests_drop at zero n bs = refl
digests_drop at (suc k) n bs =
    let e : n + (at + 32) ≡ n + at + 32 = omega arith in
    ap₂ {C = List (List ℕ)} (λ (d : List ℕ) (ds : List (List ℕ)). d ∷ ds) (part_drop at 32 n bs)
    (digests_drop (at + 32) k n bs ∙ ap (λ (p : ℕ). rows_from 32 p k bs) e)

-- ---- joined

-- digests that were joined, whatever stands before and behind them
pub digests_joined : (xs : List (List ℕ)) (before after : List ℕ) (at : ℕ) → length before ≡ at → Each 32 xs
    → rows_from 32 at (length xs) (before ++ (joined xs ++ after)) ≡ xs
unfolding rows_from joined
digests_joined [] before after at e a = refl
digests_joined (x ∷ xs) before after at e a =
    let r : before ++ (x ++ joined xs ++ after) ≡ before ++ x ++ (joined xs ++ after) = simp append_assoc in
    let n : length (before ++ x) ≡ at + 32 = rw length-append (omega (arith, a.0)) in
    ap (rows_from 32 at (length (x ∷ xs))) r
    ∙ ap₂ {C = List (List ℕ)} (λ (d : List ℕ) (ds : List (List ℕ)). d ∷ ds)
    (part_field at 32 before x (joined xs ++ after) e a.0)
    (digests_joined xs (before ++ x) after (at + 32) n a.1)

-- joined again they are the bytes that they were read from
pub joined_part : (at k : ℕ) (bs : List ℕ) → joined (rows_from 32 at k bs) ≡ part at (32 * k) bs
unfolding rows_from joined part
joined_part at zero bs = refl
joined_part at (suc k) bs =
    let e : 32 + 32 * k ≡ 32 * suc k = omega arith in
    ap (λ (ds : List ℕ). part at 32 bs ++ ds) (joined_part (at + 32) k bs)
    ∙ sym (part_add at 32 (32 * k) bs)
    ∙ ap (λ (n : ℕ). part at n bs) e
