-- The items of a single letter in the walk's order, and the digests of a passage of one index in the single letter's: as many, each of 32 bytes.
use mathlib.Core.Path.{◌≡◌, refl, ap, ◌∙◌}
use mathlib.Core.List.{List, [], ◌∷◌, ◌++◌}
use Prim.Native.Nat.{ℕ, suc}
use native.Mathlib.Omega.{arith}
use lib.ListN.{length, length-append, length-drop, get_or, take, drop}
use lib.Seq.{length-take-le}
use Rattle.wire.specs.Slices.{Each}
use Rattle.wire.proofs.Each.{each_append, each_take, each_drop, each_at}
use Rattle.shape.specs.Tree.{Turn, left, right, past}
use Rattle.views.specs.One.{walk_order, letter_order}

-- one digest of 32 bytes for each turn
pub record Digests (w : List Turn) (xs : List (List ℕ)) : Type 0 where
  pub many : length xs ≡ length w
  pub each : Each 32 xs

module _ (w : List Turn) (xs : List (List ℕ)) (e : length xs ≡ suc (length w)) (p : Each 32 xs) where
  most : Digests w (take (length w) xs)
  most = record { many = length-take-le (length w) xs (omega arith); each = each_take 32 (length w) xs p }

  rest : Digests w (drop 1 xs)
  rest = record { many = length-drop 1 xs ∙ omega arith; each = each_drop 32 1 xs p }

  first : length (get_or xs 0 []) ≡ 32
  first = each_at 32 xs 0 (omega arith) p

  last : length (get_or xs (length w) []) ≡ 32
  last = each_at 32 xs (length w) (omega arith) p

behind : (t : Turn) (w : List Turn) (xs : List (List ℕ)) (x : List ℕ) → Digests w xs → length x ≡ 32 → Digests (t ∷ w) (xs ++ (x ∷ []))
behind t w xs x d e =
    record { many = length-append xs (x ∷ []) ∙ omega (arith, d.many); each = each_append 32 xs (x ∷ []) d.each (e, tt) }

before : (t : Turn) (w : List Turn) (xs : List (List ℕ)) (x : List ℕ) → Digests w xs → length x ≡ 32 → Digests (t ∷ w) (x ∷ xs)
before t w xs x d e = record { many = ap suc d.many; each = (e, d.each) }

pub letter_order_lem : (w : List Turn) (ys : List (List ℕ)) → Digests w ys → Digests w (letter_order w ys)
letter_order_lem [] ys d = record { many = refl; each = tt }
letter_order_lem (left ∷ w) ys d = behind left w _ _ (letter_order_lem w (take (length w) ys) (most w ys d.many d.each)) (last w ys d.many d.each)
letter_order_lem (right ∷ w) ys d = behind right w _ _ (letter_order_lem w (drop 1 ys) (rest w ys d.many d.each)) (first w ys d.many d.each)
letter_order_lem (past ∷ w) ys d = before past w _ _ (letter_order_lem w (drop 1 ys) (rest w ys d.many d.each)) (first w ys d.many d.each)

pub walk_order_lem : (w : List Turn) (xs : List (List ℕ)) → Digests w xs → Digests w (walk_order w xs)
walk_order_lem [] xs d = record { many = refl; each = tt }
walk_order_lem (left ∷ w) xs d = behind left w _ _ (walk_order_lem w (take (length w) xs) (most w xs d.many d.each)) (last w xs d.many d.each)
walk_order_lem (right ∷ w) xs d = before right w _ _ (walk_order_lem w (take (length w) xs) (most w xs d.many d.each)) (last w xs d.many d.each)
walk_order_lem (past ∷ w) xs d = before past w _ _ (walk_order_lem w (drop 1 xs) (rest w xs d.many d.each)) (first w xs d.many d.each)
