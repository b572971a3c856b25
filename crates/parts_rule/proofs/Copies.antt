-- A run of bytes copied behind the first bytes of another, and zeros.
use mathlib.Core.Path.{◌≡◌, sym, ap, ap₂, ◌∙◌}
use mathlib.Core.List.{List, ◌++◌}
use Prim.Native.Nat.{ℕ, zero, suc, ◌+◌, ◌-◌, ◌≤◌}
use native.Mathlib.Omega.{arith}
use borrow.Rule.Slice.PartMut.{put_mid}
use lib.ListN.{length, take, drop, length-append}
use lib.Seq.{paste, length-take-le, take_at, take-length, drop-append-add}
use Rattle.std.proofs.lemmas.Slice.{put_mid-paste}
use Rattle.wire.specs.Slices.{zeros}
use Rattle.parts_rule.specs.Stack.{padded}

drop_zeros : (n m : ℕ) → drop n (zeros m) ≡ zeros (m - n)
drop_zeros zero m = ap zeros (let e : m ≡ m - 0 = omega arith in e)
drop_zeros (suc n) zero = ap zeros (let e : 0 ≡ 0 - suc n = omega arith in e)
drop_zeros (suc n) (suc m) = drop_zeros n m ∙ ap zeros (let e : m - n ≡ suc m - suc n = omega arith in e)

module _ (m n : ℕ) (b run : List ℕ) (low : n ≤ length b) where
  abbrev front : List ℕ
  front = take n b

  long : length front ≡ n
  long = length-take-le n b low

  pasted : paste (padded m front) n run (length run) ≡ padded m (front ++ run)
  pasted =
      let rest = zeros (m - length front) in
      ap₂ (λ (x y : List ℕ). x ++ y ++ drop (n + length run) (front ++ rest)) (take_at front rest n long) (take-length run)
      ∙ ap (λ (x : List ℕ). front ++ run ++ x)
      (ap (λ (j : ℕ). drop (j + length run) (front ++ rest)) (sym long) ∙ drop-append-add front rest (length run)
      ∙ drop_zeros (length run) (m - length front))
      ∙ ap (λ (j : ℕ). front ++ run ++ zeros j) (let z : m - length front - length run ≡ m - length (front ++ run) = omega (arith, length-append front run) in z)

  pub run_behind : {l r : List ℕ} → l ≡ front → r ≡ run → put_mid n (n + length run - n) (l ++ drop n (zeros m)) r ≡ padded m (front ++ run)
  run_behind {l} {r} el er =
      put_mid-paste n (n + length run - n) (l ++ drop n (zeros m)) r run (length run) er (omega arith) (λ i. length run)
      ∙ ap (λ (d : List ℕ). paste d n run (length run))
      (ap₂ (λ (x y : List ℕ). x ++ y) el (drop_zeros n m ∙ ap (λ (j : ℕ). zeros (m - j)) (sym long)))
      ∙ pasted
