-- Laws of a splice and of a write: the length, what is before and after it, what is read back, splices in a row.
use mathlib.Core.Path.{◌≡◌, sym, ap, ◌∙◌}
use mathlib.Core.List.{List, [], ◌∷◌, ◌++◌, append_assoc, append-nil}
use Prim.Native.Nat.{ℕ, ◌+◌, ◌-◌, ◌≤◌, ◌<◌}
use native.Mathlib.Omega.{arith}
use native.Mathlib.Nat.{add-zero, zero-add, add_assoc, le_refl, le_of_eq}
use native.Mathlib.Decide.{dec_le}
use native.Mathlib.Numerals.{add-one}
use borrow.Author.Tests.{le-leb, lt-leb}
use lib.ListN.{length, take, drop, set, length-append, length-drop, take-append-drop, drop_of_length-le}
use lib.Seq.{length-take-le, take-append-le, take-take, take-add, take_at, drop_at, drop-append-le, drop-drop, set_split, append_snoc}
use Rattle.wire.specs.Slices.{part, splice, written}
use Rattle.wire.proofs.Parts.{part_length, part_within, part_front, part_past, part_field, part_take, part_drop}

-- ---- a splice that fits

module _ (at : ℕ) (xs d : List ℕ) (h : at + length xs ≤ length d) where
  head_length : length (take at d ++ xs) ≡ at + length xs
  head_length = let l : at ≤ length d = omega arith in simp (length-append, length-take-le)

  pub splice_length : length (splice at xs d) ≡ length d
  unfolding splice
  splice_length = rw (length-append, head_length, length-drop) (omega arith)

  -- what stands before it
  pub splice_before : (n : ℕ) → n ≤ at → take n (splice at xs d) ≡ take n d
  unfolding splice
  splice_before n l =
      let m : n ≤ length (take at d ++ xs) = rw head_length (omega arith) in
      let k : n ≤ length (take at d) = rw (length-take-le at d (omega arith)) l in
      rw (take-append-le n (take at d ++ xs), take-append-le n (take at d), take-take)

  -- with it
  pub splice_through : take (at + length xs) (splice at xs d) ≡ take at d ++ xs
  unfolding splice
  splice_through = take_at (take at d ++ xs) (drop (at + length xs) d) (at + length xs) head_length

  -- what stands after it
  pub splice_after : drop (at + length xs) (splice at xs d) ≡ drop (at + length xs) d
  unfolding splice
  splice_after = drop_at (take at d ++ xs) (drop (at + length xs) d) (at + length xs) head_length

  -- what is read inside it, before it, after it
  pub part_inside : (j k : ℕ) → j + k ≤ length xs → part (at + j) k (splice at xs d) ≡ part j k xs
  unfolding splice
  part_inside j k l =
      rw (append_assoc, part_past at j k (take at d) _ (length-take-le at d (omega arith))) (part_front j k xs _ l)

  pub part_before : (p k : ℕ) → p + k ≤ at → part p k (splice at xs d) ≡ part p k d
  part_before p k l =
      let n : at ≤ length (splice at xs d) = rw splice_length (omega arith) in
      sym (part_take p k at (splice at xs d) l n) ∙ rw (splice_before at (le_refl at)) (part_take p k at d l (omega arith))

  pub part_after : (p k : ℕ) → at + length xs ≤ p → part p k (splice at xs d) ≡ part p k d
  part_after p k l =
      let e : at + length xs + (p - (at + length xs)) ≡ p = omega arith in
      rw (← e, ← part_drop _ k (at + length xs) (splice at xs d), splice_after) (part_drop _ k (at + length xs) d)

-- the run itself is read back
pub part_splice : (at k : ℕ) (xs d : List ℕ) → length xs ≡ k → at + k ≤ length d → part at k (splice at xs d) ≡ xs
unfolding splice
part_splice at k xs d e h = part_field at k (take at d) xs (drop (at + length xs) d) (length-take-le at d (omega arith)) e

-- ---- a splice of nothing, at the start, over all

pub splice_none : (at : ℕ) (d : List ℕ) → splice at [] d ≡ d
unfolding splice
splice_none at d = rw (add-zero, append-nil) (take-append-drop at d)

pub splice_front : (xs d : List ℕ) → splice 0 xs d ≡ xs ++ drop (length xs) d
unfolding splice
splice_front xs d = rw zero-add

pub splice_whole : (xs d : List ℕ) → length xs ≡ length d → splice 0 xs d ≡ xs
splice_whole xs d e = splice_front xs d ∙ rw (drop_of_length-le d (le_of_eq (sym e)), append-nil)

-- what was read at a place, written back
pub splice_part : (at k : ℕ) (d : List ℕ) → at + k ≤ length d → splice at (part at k d) d ≡ d
unfolding splice
splice_part at k d h =
    rw (part_length, part_within at k d, ← drop-drop, append_assoc, take-append-drop, take-append-drop)

-- a byte that is stored
pub splice_byte : (at b : ℕ) (d : List ℕ) → at < length d → set d at b ≡ splice at (b ∷ []) d
unfolding splice
splice_byte at b d h = set_split d at b h ∙ rw (append_snoc, add-one)

-- a splice in a part that was lent is one in the whole
pub splice_lent : (at k j : ℕ) (xs d : List ℕ) → at + k ≤ length d → j + length xs ≤ k
    → take at d ++ (splice j xs (take k (drop at d)) ++ drop k (drop at d)) ≡ splice (at + j) xs d
unfolding splice
splice_lent at k j xs d h l =
    let s : List ℕ = drop at d in
    let n : j + length xs ≤ length (take k s) = rw (length-take-le k s (rw length-drop (omega arith))) l in
    let f = drop-append-le (j + length xs) (take k s) (drop k s) n in
    let g : drop (j + length xs) (take k s ++ drop k s) ≡ drop (at + j + length xs) d = rw (take-append-drop, drop-drop, add_assoc) in
    rw (take-take j k s (omega arith), take-add at j d, ← g, f) (simp append_assoc)

-- ---- splices in a row

-- two neighbours are one
pub splice_splice : (at : ℕ) (xs ys d : List ℕ) → at + length xs + length ys ≤ length d
    → splice (at + length xs) ys (splice at xs d) ≡ splice at (xs ++ ys) d
unfolding splice
splice_splice at xs ys d h =
    let n : length (take at d ++ xs) ≡ at + length xs = head_length at xs d (omega arith) in
    let m : at + length xs + length ys ≡ at + length (xs ++ ys) = rw length-append (omega arith) in
    let t = take_at (take at d ++ xs) (drop (at + length xs) d) (at + length xs) n in
    let u = drop_at (take at d ++ xs) (drop (at + length xs) d) (at + length xs) n in
    rw (t, ← drop-drop (length ys), u, drop-drop, m)
    (ap (λ (l : List ℕ). l ++ drop (at + length (xs ++ ys)) d) (append_assoc (take at d) xs ys))

-- ---- a write

module _ (at : ℕ) (xs d : List ℕ) where
  pub written_fits : at + length xs ≤ length d → written at xs d ≡ splice at xs d
  unfolding written
  written_fits h = rw (le-leb (at + length xs) (length d) h, written)

  pub written_short : length d < at + length xs → written at xs d ≡ d
  unfolding written
  written_short h = rw (lt-leb (at + length xs) (length d) h, written)

  pub written_length : length (written at xs d) ≡ length d
  written_length = elim (dec_le (at + length xs) (length d)) [
    | yes h ↦ rw written_fits (splice_length at xs d h)
    | no h ↦ rw (written_short (omega arith))
  ]

-- one more run straight after those that are there: what the calls of a writer leave, one after the other
pub written_next : (at n : ℕ) (xs ys d l : List ℕ) → l ≡ splice at xs d → n ≡ at + length xs → n + length ys ≤ length d
    → written n ys l ≡ splice at (xs ++ ys) d
written_next at n xs ys d l e p h =
    let k : n + length ys ≤ length l = rw (e, splice_length at xs d (omega arith)) h in
    rw (written_fits n ys l, e, p) (splice_splice at xs ys d (omega arith))
