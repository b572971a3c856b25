-- Bytes taken many at a time: those that have room in the block are put there, and a full block goes on when bytes follow.
use mathlib.Core.Path.{◌≡◌, refl, sym, ap, ◌∙◌}
use mathlib.Core.List.{List, [], ◌∷◌, ◌++◌, append-nil}
use Prim.Native.Nat.{ℕ, ◌+◌, ◌≤◌, ◌<◌}
use native.Mathlib.Decide.{ℕ_discrete}
use native.Mathlib.Omega.{arith}
use lib.ListN.{length, length-append}
use lib.Seq.{append_snoc}
use Rattle.parts_rule.specs.Run.{Run, in_chunk, put, flushed, roomed, taken}
use Rattle.parts_rule.proofs.Takes.{roomed_room, roomed_full, flushed_on, flushed_end}

put_put : (r : Run) (x : ℕ) (xs : List ℕ) → put (put r (x ∷ [])) xs ≡ put r (x ∷ xs)
put_put r x xs = λ i. record {
  stack = r.stack;
  chain = r.chain;
  block = append_snoc r.block x xs i;
  total = (let e : r.total + 1 + length xs ≡ r.total + length (x ∷ xs) = omega arith in e) i;
}

put_none : (r : Run) → put r [] ≡ r
put_none r =
    λ i. record {
      stack = r.stack;
      chain = r.chain;
      block = append-nil r.block i;
      total =
          (let e : r.total + 0 ≡ r.total = omega arith in e) i;
    }

module _ (key : List ℕ) (flag : ℕ) where
  pub taken_append : (r : Run) (xs ys : List ℕ) → taken key flag r (xs ++ ys) ≡ taken key flag (taken key flag r xs) ys
  unfolding taken
  taken_append r [] ys = refl
  taken_append r (x ∷ xs) ys = taken_append (put (roomed key flag r) (x ∷ [])) xs ys

  -- bytes that have room are put
  pub taken_put : (r : Run) (xs : List ℕ) → length r.block + length xs ≤ 64 → taken key flag r xs ≡ put r xs
  unfolding taken
  taken_put r [] l = sym (put_none r)
  taken_put r (x ∷ xs) l =
      let e : roomed key flag r ≡ r = roomed_room key flag r (λ z. let y : length r.block ≡ 64 = z in omega arith) in
      ap (λ (s : Run). taken key flag (put s (x ∷ [])) xs) e
      ∙ taken_put (put r (x ∷ [])) xs (omega (arith, length-append r.block (x ∷ [])))
      ∙ put_put r x xs

  -- a block that has gone on is empty, and has room
  gone_room : (r : Run) → roomed key flag (flushed key flag r) ≡ flushed key flag r
  gone_room r =
      elim (ℕ_discrete (in_chunk r.total) 1024) [
        | yes e ↦ roomed_room key flag (flushed key flag r) (none (ap (λ (s : Run). length s.block) (flushed_end key flag r e)))
        | no e ↦ roomed_room key flag (flushed key flag r) (none (ap (λ (s : Run). length s.block) (flushed_on key flag r e)))
      ]
    where
      none : {n : ℕ} → n ≡ 0 → n ≡ 64 → ⊥
      none e f = omega arith

  -- a full block goes on when bytes follow
  taken_full : (r : Run) (ys : List ℕ) → length r.block ≡ 64 → 0 < length ys → taken key flag r ys ≡ taken key flag (flushed key flag r) ys
  unfolding taken
  taken_full r [] e s = absurd (omega arith)
  taken_full r (y ∷ ys) e s = ap (λ (q : Run). taken key flag (put q (y ∷ [])) ys) (roomed_full key flag r e ∙ sym (gone_room r))

  -- bytes that fill the block, and bytes that follow
  pub taken_filled : (r : Run) (xs ys : List ℕ) → length r.block + length xs ≡ 64 → 0 < length ys
      → taken key flag r (xs ++ ys) ≡ taken key flag (flushed key flag (put r xs)) ys
  taken_filled r xs ys e s =
      taken_append r xs ys ∙ ap (λ (q : Run). taken key flag q ys) (taken_put r xs (omega arith))
      ∙ taken_full (put r xs) ys (length-append r.block xs ∙ e) s
