-- A letter that passes the order of its fields: what it has, and that its bytes are put together from its parts.
use mathlib.Core.Path.{◌≡◌, sym, ap, ap₂, ◌∙◌}
use mathlib.Core.List.{List, [], ◌++◌, map, append_assoc}
use Prim.Native.Nat.{ℕ, ◌+◌, ◌*◌, ◌≤◌}
use native.Mathlib.Omega.{arith}
use lib.ListN.{length, get_or, take, drop, length-drop, take-append-drop}
use lib.Seq.{take_all}
use Rattle.order.proofs.Laws.{Passes, pass_parts}
use Rattle.wire.specs.Numbers.{be, Bytes}
use Rattle.wire.specs.Slices.{part, joined}
use Rattle.wire.proofs.Parts.{part_within, part_add}
use Rattle.wire.proofs.Places.{be_part}
use Rattle.wire.proofs.Rows.{joined_part}
use Rattle.letter.specs.Bytes.{size_in}
use Rattle.passage.specs.Bytes.{entries, passage_bytes, count_in, places, indexes_in, starts_in, lengths_in, records_in, end_in, digests_in}
use Rattle.passage.specs.Request.{Request}
use Rattle.passage.specs.Digests.{digest_count}
use Rattle.passage.specs.Checking.{entries_order, fields_order}
use Rattle.passage_fields.proofs.Places.{indexes_count, exact_end}
use Rattle.passage_fields.proofs.Entries.{AtMost, entries_rising, entries_short, entries_within, entries_stated}
use Rattle.passage_fields.proofs.Entries.{entries_inside, entries_part, entries_bytes}

module _ (size n : ℕ) (letter : List ℕ) where
  pub record Fits : Type 0 where
    pub long : 10 ≤ length letter
    pub named : size_in letter ≡ size
    pub some : 1 ≤ count_in letter
    pub few : count_in letter ≤ 256
    pub each : Passes (entries_order n letter 10 0 (count_in letter))
    pub exact : length letter ≡ end_in letter + 32 * digest_count n (indexes_in letter)

  pub pass_fits : Passes (fields_order size n letter) → Fits
  unfolding fields_order
  pass_fits p =
      let q = pass_parts (entries_order n letter 10 0 (count_in letter)) _ p.1.1.1.1 in
      record {
        long = p.0;
        named = p.1.0;
        some = p.1.1.0;
        few = p.1.1.1.0;
        each = q.0;
        exact = q.1.0 ∙ exact_end letter n;
      }

  -- ---- its records

  module _ (f : Fits) where
    -- a request
    pub fits_request : Request n (indexes_in letter)
    unfolding indexes_in places
    fits_request =
        let c = indexes_count letter in
        record { some = omega (arith, f.some); few = omega (arith, f.few); rising = entries_rising n letter 10 0 (count_in letter) f.each }

    -- none is above 16,384 bytes, and each is as long as is stated
    pub fits_short : AtMost 16384 (lengths_in letter)
    unfolding lengths_in places
    fits_short = entries_short n letter 10 0 (count_in letter) f.each

    pub fits_stated : map length (records_in letter) ≡ lengths_in letter
    unfolding records_in lengths_in places
    fits_stated = entries_stated n letter 10 0 (count_in letter) f.each

    -- they lie within the letter: all, and record k, which is that part of it
    pub fits_within : end_in letter ≤ length letter
    unfolding end_in
    fits_within = entries_within n letter 10 0 (count_in letter) f.long f.each

    pub fits_inside : (k : ℕ) → get_or (starts_in letter) k 0 + get_or (lengths_in letter) k 0 ≤ length letter
    unfolding starts_in lengths_in places
    fits_inside k = entries_inside n letter 10 0 (count_in letter) f.each k

    pub fits_part : (k : ℕ) → part (get_or (starts_in letter) k 0) (get_or (lengths_in letter) k 0) letter ≡ get_or (records_in letter) k []
    unfolding starts_in lengths_in records_in places
    fits_part k = entries_part n letter 10 0 (count_in letter) f.each k

    -- ---- its bytes

    records_bytes : Bytes letter → entries (indexes_in letter) (records_in letter) ++ drop (end_in letter) letter ≡ drop 10 letter
    unfolding indexes_in records_in places end_in
    records_bytes b = entries_bytes n letter 10 0 (count_in letter) b f.each

    digests_bytes : (k : ℕ) → length letter ≡ end_in letter + 32 * k → joined (digests_in k letter) ≡ drop (end_in letter) letter
    unfolding digests_in
    digests_bytes k e =
        joined_part (end_in letter) k letter
        ∙ part_within (end_in letter) (32 * k) letter (omega arith)
        ∙ take_all (32 * k) (drop (end_in letter) letter) (rw length-drop (omega arith))

    head_bytes : Bytes letter → be 8 size ++ be 2 (length (indexes_in letter)) ≡ take 10 letter
    unfolding size_in count_in
    head_bytes b =
        ap₂ (λ (x y : List ℕ). x ++ y) (ap (be 8) (sym f.named) ∙ be_part 0 8 letter b) (ap (be 2) (indexes_count letter) ∙ be_part 8 2 letter b)
        ∙ sym (part_add 0 8 2 letter)
        ∙ part_within 0 10 letter f.long

    -- the letter is put together from its parts
    pub fits_whole : Bytes letter
        → letter ≡ passage_bytes size (indexes_in letter) (records_in letter) (digests_in (digest_count n (indexes_in letter)) letter)
    unfolding passage_bytes
    fits_whole b =
        let k = digest_count n (indexes_in letter) in
        sym (rw (head_bytes b, digests_bytes k f.exact, append_assoc, records_bytes b) (take-append-drop 10 letter))

pub fields_whole : (size n : ℕ) (letter : List ℕ) → Bytes letter → Passes (fields_order size n letter)
    → letter ≡ passage_bytes size (indexes_in letter) (records_in letter) (digests_in (digest_count n (indexes_in letter)) letter)
fields_whole size n letter b p = fits_whole size n letter (pass_fits size n letter p) b
