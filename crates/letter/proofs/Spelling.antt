-- A letter's bytes and its fields, both ways: what was put together is taken apart again, and bytes of the exact length are the letter that
-- their fields give.
use mathlib.Core.Path.{◌≡◌, refl, sym, ap, ap₂, ◌∙◌}
use mathlib.Core.List.{List, [], ◌++◌, append_assoc, append-nil}
use Prim.Native.Nat.{ℕ, ◌+◌, ◌*◌, ◌^◌, ◌<◌}
use native.Mathlib.Nat.{zero-add}
use lib.ListN.{length, length-append}
use Rattle.wire.specs.Numbers.{be, number, Bytes}
use Rattle.wire.specs.Slices.{part, Each, joined, rows_from}
use Rattle.wire.proofs.Numbers.{be_length}
use Rattle.wire.proofs.Parts.{part_length, part_whole, part_field, part_add}
use Rattle.wire.proofs.Places.{number_field, be_part}
use Rattle.wire.proofs.Joined.{joined_length}
use Rattle.letter.specs.Bytes.{letter_bytes, size_in, index_in, stated_in, record_in, items_in}
use Rattle.wire.proofs.Rows.{digests_length, digests_each, digests_joined, joined_part}

-- k items, each of 32 bytes
pub items_length : (k : ℕ) (letter : List ℕ) → length (items_in k letter) ≡ k
unfolding items_in
items_length k letter = digests_length (20 + stated_in letter) k letter

pub items_32 : (k : ℕ) (letter : List ℕ) → Each 32 (items_in k letter)
unfolding items_in
items_32 k letter = digests_each (20 + stated_in letter) k letter

-- ---- put together, then taken apart

module _ (size index : ℕ) (rec : List ℕ) (items : List (List ℕ)) where
  -- what stands before the record
  pub head_length : length (be 8 size ++ be 8 index ++ be 4 (length rec)) ≡ 20
  head_length = simp (length-append, be_length)

  pub letter_bytes_lem : length (letter_bytes size index rec items) ≡ 20 + length rec + length (joined items)
  unfolding letter_bytes
  letter_bytes_lem = rw (length-append, length-append, head_length)

  pub letter_length : Each 32 items → length (letter_bytes size index rec items) ≡ 20 + length rec + 32 * length items
  letter_length p = letter_bytes_lem ∙ ap (λ (k : ℕ). 20 + length rec + k) (joined_length items p)

  pub size_read : size < 256 ^ 8 → size_in (letter_bytes size index rec items) ≡ size
  unfolding letter_bytes size_in
  size_read h =
      let e : be 8 size ++ be 8 index ++ be 4 (length rec) ++ rec ++ joined items
      ≡ [] ++ be 8 size ++ (be 8 index ++ (be 4 (length rec) ++ (rec ++ joined items))) = simp append_assoc in
      ap (λ (l : List ℕ). number (part 0 8 l)) e ∙ number_field 0 8 size [] _ refl h

  pub index_read : index < 256 ^ 8 → index_in (letter_bytes size index rec items) ≡ index
  unfolding letter_bytes index_in
  index_read h =
      let e : be 8 size ++ be 8 index ++ be 4 (length rec) ++ rec ++ joined items
      ≡ be 8 size ++ be 8 index ++ (be 4 (length rec) ++ (rec ++ joined items)) = simp append_assoc in
      ap (λ (l : List ℕ). number (part 8 8 l)) e ∙ number_field 8 8 index (be 8 size) _ (be_length 8 size) h

  module _ (short : length rec < 256 ^ 4) where
    pub stated_read : stated_in (letter_bytes size index rec items) ≡ length rec
    unfolding letter_bytes stated_in
    stated_read =
        let e : be 8 size ++ be 8 index ++ be 4 (length rec) ++ rec ++ joined items
        ≡ be 8 size ++ be 8 index ++ be 4 (length rec) ++ (rec ++ joined items) = simp append_assoc in
        ap (λ (l : List ℕ). number (part 16 4 l)) e
        ∙ number_field 16 4 (length rec) (be 8 size ++ be 8 index) _ (simp (length-append, be_length)) short

    pub record_read : record_in (letter_bytes size index rec items) ≡ rec
    unfolding letter_bytes record_in
    record_read =
        ap (λ (k : ℕ). part 20 k (letter_bytes size index rec items)) stated_read
        ∙ part_field 20 (length rec) (be 8 size ++ be 8 index ++ be 4 (length rec)) rec (joined items) head_length refl

    pub items_read_back : Each 32 items → items_in (length items) (letter_bytes size index rec items) ≡ items
    unfolding letter_bytes items_in
    items_read_back p =
        let front : List ℕ = be 8 size ++ be 8 index ++ be 4 (length rec) ++ rec in
        let n : length front ≡ 20 + length rec = length-append (be 8 size ++ be 8 index ++ be 4 (length rec)) rec ∙ rw head_length in
        ap₂ (λ (at : ℕ) (l : List ℕ). rows_from 32 at (length items) l) (ap (λ (k : ℕ). 20 + k) stated_read)
        (sym (ap (λ (g : List ℕ). front ++ g) (append-nil (joined items))))
        ∙ digests_joined items front [] (20 + length rec) n p

-- ---- taken apart, then put together

stated_bytes : (letter : List ℕ) → Bytes letter → be 4 (stated_in letter) ≡ part 16 4 letter
unfolding stated_in
stated_bytes letter b = be_part 16 4 letter b

pub spelt : (k : ℕ) (letter : List ℕ) → Bytes letter → length letter ≡ 20 + stated_in letter + 32 * k
    → letter ≡ letter_bytes (size_in letter) (index_in letter) (record_in letter) (items_in k letter)
unfolding letter_bytes size_in index_in record_in items_in
spelt k letter b exact =
    let s = stated_in letter in
    let n : length (part 20 s letter) ≡ s = part_length 20 s letter in
    let j : part 0 (20 + s) letter ++ part (20 + s) (32 * k) letter ≡ letter =
    ap (λ (at : ℕ). part 0 (20 + s) letter ++ part at (32 * k) letter) (sym (zero-add (20 + s)))
    ∙ sym (part_add 0 (20 + s) (32 * k) letter) ∙ ap (λ (m : ℕ). part 0 m letter) (sym exact) ∙ part_whole letter in
    sym (rw (
      be_part 0 8 letter b,
      be_part 8 8 letter b,
      n,
      stated_bytes letter b,
      joined_part
          (20 + s) k letter,
      ← part_add 0 8 8 letter,
      ← part_add 0 16 4 letter,
      ← part_add 0 20 s letter,
    ) j)
