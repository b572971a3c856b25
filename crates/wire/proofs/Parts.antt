-- Laws of a part, k bytes from a place: its length, and what it is of a list that is put together or cut.
use mathlib.Core.Path.{◌≡◌, refl, sym, ap, ◌∙◌}
use mathlib.Core.List.{List, [], ◌∷◌, ◌++◌}
use Prim.Native.Nat.{ℕ, zero, suc, ◌+◌, ◌-◌, ◌≤◌, ◌<◌}
use native.Mathlib.Nat.{add-zero, sub-add_cancel, le_of_eq}
use native.Mathlib.Omega.{arith}
use native.Mathlib.Decide.{dec_lt}
use lib.ListN.{length, get_or, take, drop, take-append-drop, drop_of_length-le, get_or-append, get_or-eq_default}
use lib.ListN.{length-append, length-drop, length-replicate, replicate-append-replicate}
use lib.Seq.{length-take-le, take_all, take-length, take_at, take-append-le, take-append-add, drop-append-le, drop-append-add, drop-drop}
use lib.Seq.{get_or-take, get_or-drop, get_or-append-add, ext_get_or}
use Rattle.wire.specs.Numbers.{Bytes}
use Rattle.wire.specs.Slices.{zeros, part}

pub part_length : (at k : ℕ) (bs : List ℕ) → length (part at k bs) ≡ k
unfolding part
part_length at k bs = length-take-le k (drop at bs ++ zeros k) (simp (length-append, length-replicate) (omega arith))

-- where the bytes are all there
pub part_within : (at k : ℕ) (bs : List ℕ) → at + k ≤ length bs → part at k bs ≡ take k (drop at bs)
unfolding part
part_within at k bs h = take-append-le k (drop at bs) (zeros k) (simp length-drop (omega arith))

pub part_whole : (bs : List ℕ) → part 0 (length bs) bs ≡ bs
part_whole bs = part_within 0 (length bs) bs (omega arith) ∙ take-length bs

-- where some are past the end, zeros follow those that are there
pub part_short : (at k : ℕ) (bs : List ℕ) → length (drop at bs) ≤ k
    → part at k bs ≡ drop at bs ++ zeros (k - length (drop at bs))
unfolding part
part_short at k bs h =
    let n : ℕ = length (drop at bs) in
    let e : k ≡ n + (k - n) = omega arith in
    let z : zeros k ≡ zeros (k - n) ++ zeros n = rw (replicate-append-replicate, sub-add_cancel h) in
    ap (λ (m : ℕ). take m (drop at bs ++ zeros k)) e
    ∙ rw (take-append-add, z, take_at (zeros (k - n)) (zeros n) (k - n) (length-replicate (k - n) 0))

-- past the end there are zeros alone
pub part_beyond : (at k : ℕ) (bs : List ℕ) → length bs ≤ at → part at k bs ≡ zeros k
unfolding part
part_beyond at k bs h = rw (drop_of_length-le bs h) (take_all k (zeros k) (le_of_eq (length-replicate k 0)))

padded : (xs : List ℕ) (k i : ℕ) → get_or (xs ++ zeros k) i 0 ≡ get_or xs i 0
padded [] zero i = refl
padded [] (suc k) zero = refl
padded [] (suc k) (suc i) = padded [] k i
padded (x ∷ xs) k zero = refl
padded (x ∷ xs) k (suc i) = padded xs k i

-- byte i of a part is byte at + i of the whole
pub part_byte : (at k : ℕ) (bs : List ℕ) (i : ℕ) → i < k → get_or (part at k bs) i 0 ≡ get_or bs (at + i) 0
unfolding part
part_byte at k bs i h = rw (get_or-take, padded, get_or-drop)

-- ---- of a list that is put together

pub part_front : (at k : ℕ) (xs ys : List ℕ) → at + k ≤ length xs → part at k (xs ++ ys) ≡ part at k xs
part_front at k xs ys h =
    let n : at + k ≤ length (xs ++ ys) = simp length-append (omega arith) in
    let m : at ≤ length xs = omega arith in
    let d : k ≤ length (drop at xs) = simp length-drop (omega arith) in
    rw (part_within at k (xs ++ ys), part_within at k xs, drop-append-le, take-append-le)

pub part_past : (n at k : ℕ) (xs ys : List ℕ) → length xs ≡ n → part (n + at) k (xs ++ ys) ≡ part at k ys
unfolding part
part_past n at k xs ys e = rw (← e, drop-append-add)

-- a field: what stands before it, the field, what follows
pub part_field : (at k : ℕ) (p xs q : List ℕ) → length p ≡ at → length xs ≡ k → part at k (p ++ xs ++ q) ≡ xs
part_field at k p xs q e f =
    let n : at + k ≤ length (p ++ xs) = rw length-append (omega arith) in
    let m : part (at + 0) k (p ++ xs) ≡ part 0 k xs = part_past at 0 k p xs e in
    part_front at k (p ++ xs) q n ∙ rw add-zero at m ∙ rw (← f) (part_whole xs)

-- ---- of a list that is cut

pub part_drop : (at k n : ℕ) (bs : List ℕ) → part at k (drop n bs) ≡ part (n + at) k bs
unfolding part
part_drop at k n bs = rw drop-drop

pub part_take : (at k n : ℕ) (bs : List ℕ) → at + k ≤ n → n ≤ length bs → part at k (take n bs) ≡ part at k bs
part_take at k n bs h l =
    let m : at + k ≤ length (take n bs) = rw (length-take-le n bs l) h in
    sym (part_front at k (take n bs) (drop n bs) m) ∙ ap (part at k) (take-append-drop n bs)

-- ---- parts in a row

pub part_add : (at j k : ℕ) (bs : List ℕ) → part at (j + k) bs ≡ part at j bs ++ part (at + j) k bs
part_add at j k bs = ext_get_or 0 _ _ (simp (length-append, part_length)) (λ i h. byte i (rw part_length at h) (dec_lt i j))
  where
    byte : (i : ℕ) → i < j + k → Dec (i < j) → get_or (part at (j + k) bs) i 0 ≡ get_or (part at j bs ++ part (at + j) k bs) i 0
    byte i h (yes l) =
        let m : i < length (part at j bs) = rw part_length l in
        rw (part_byte at (j + k) bs i, get_or-append (part at j bs), part_byte at j bs i)
    byte i h (no l) =
        let e : i ≡ length (part at j bs) + (i - j) = rw part_length (omega arith) in
        let m : at + j + (i - j) ≡ at + i = omega arith in
        part_byte at (j + k) bs i h
        ∙ sym (ap (λ (n : ℕ). get_or (part at j bs ++ part (at + j) k bs) n 0) e
        ∙ rw (get_or-append-add, part_byte (at + j) k bs (i - j) (omega arith), m))

-- a part of bytes is bytes
pub part_bytes : (at k : ℕ) (bs : List ℕ) → Bytes bs → Bytes (part at k bs)
part_bytes at k bs h i = elim (dec_lt i k) [
  | yes l ↦ rw (part_byte at k bs i l) (h (at + i))
  | no l ↦ rw (get_or-eq_default (part at k bs) 0 {n = i} (rw part_length (omega arith))) (omega arith)
]
