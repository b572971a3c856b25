-- A letter that was put together is taken apart again: its head, its records one behind the other, its digests; and it passes the order of its
-- fields.
use mathlib.Core.Path.{◌≡◌, refl, sym, ap, ap₂, ◌∙◌}
use mathlib.Core.List.{List, [], ◌∷◌, ◌++◌, map, append_assoc, append-nil}
use Prim.Native.Nat.{ℕ, suc, ◌+◌, ◌*◌, ◌^◌, ◌≤◌, ◌<◌}
use native.Mathlib.Omega.{arith}
use lib.ListN.{length, take, drop, length-append}
use lib.Seq.{take_at, drop_at}
use Rattle.order.specs.Order.{◌if◌, ◌is_not◌}
use Rattle.order.proofs.Laws.{Passes, pass_whole}
use Rattle.wire.specs.Numbers.{be, number}
use Rattle.wire.specs.Slices.{part, Each, joined, rows_from}
use Rattle.wire.proofs.Numbers.{be_length}
use Rattle.wire.proofs.Places.{number_field}
use Rattle.wire.proofs.Joined.{joined_length}
use Rattle.wire.proofs.Rows.{digests_joined}
use Rattle.views.specs.Passage.{Rising}
use Rattle.letter.specs.Bytes.{size_in}
use Rattle.passage.specs.Bytes.{entries, passage_bytes, count_in, index_at, stated_at, record_at, behind_at, places_from, end_from}
use Rattle.passage.specs.Bytes.{places, indexes_in, lengths_in, records_in, end_in, digests_in}
use Rattle.passage.specs.Request.{Request}
use Rattle.passage.specs.Digests.{digest_count}
use Rattle.passage.specs.Checking.{record_order, entries_order, exact_for, fields_order}
use Rattle.passage_fields.proofs.Places.{exact_end}
use Rattle.passage_fields.proofs.Entries.{AtMost}

-- ---- a record at a place

-- its index, its length and its bytes
abbrev one : ℕ → List ℕ → List ℕ
one i r = be 8 i ++ be 4 (length r) ++ r

one_length : (i : ℕ) (r : List ℕ) → length (one i r) ≡ 12 + length r
one_length i r = simp (length-append, be_length) (omega arith)

module _ (letter before after : List ℕ) (i : ℕ) (r : List ℕ) (at : ℕ) (e : letter ≡ before ++ (one i r ++ after)) (l : length before ≡ at) where
  one_index : i < 256 ^ 8 → index_at letter at ≡ i
  unfolding index_at
  one_index h =
      let g : letter ≡ before ++ be 8 i ++ (be 4 (length r) ++ (r ++ after)) = e ∙ simp append_assoc in
      ap (λ (x : List ℕ). number (part at 8 x)) g ∙ number_field at 8 i before _ l h

  module _ (short : length r ≤ 16384) where
    one_stated : stated_at letter at ≡ length r
    unfolding stated_at
    one_stated =
        let g : letter ≡ before ++ be 8 i ++ be 4 (length r) ++ (r ++ after) = e ∙ simp append_assoc in
        ap (λ (x : List ℕ). number (part (at + 8) 4 x)) g
        ∙ number_field (at + 8) 4 (length r) (before ++ be 8 i) _ (rw (length-append, be_length) (omega arith)) (omega arith)

    one_record : record_at letter at ≡ r
    unfolding record_at
    one_record =
        let g : letter ≡ before ++ (be 8 i ++ be 4 (length r)) ++ (r ++ after) = e ∙ simp append_assoc in
        let m : length (before ++ (be 8 i ++ be 4 (length r))) ≡ at + 12 = simp (length-append, be_length) (omega arith) in
        ap₂ (λ (k : ℕ) (x : List ℕ). take k (drop (at + 12) x)) one_stated g
        ∙ ap (take (length r)) (drop_at (before ++ (be 8 i ++ be 4 (length r))) (r ++ after) (at + 12) m)
        ∙ take_at r after (length r) refl

    one_behind : length (before ++ one i r) ≡ behind_at letter at
    one_behind = length-append before (one i r) ∙ omega (arith, one_length i r, one_stated)

    one_within : behind_at letter at ≤ length letter
    one_within = omega (arith, ap length e ∙ length-append before (one i r ++ after), length-append (one i r) after, one_length i r, one_stated)

-- ---- records one behind the other

module _ (n : ℕ) (letter : List ℕ) (small : n ≤ 2 ^ 32) where
  pub record Read (at floor : ℕ) (is : List ℕ) (rs : List (List ℕ)) : Type 0 where
    pub indexes : map (index_at letter) (places_from letter at (length is)) ≡ is
    pub lengths : map (stated_at letter) (places_from letter at (length is)) ≡ map length rs
    pub records : map (record_at letter) (places_from letter at (length is)) ≡ rs
    pub end : end_from letter at (length is) ≡ at + length (entries is rs)
    pub passes : Passes (entries_order n letter at floor (length is))

  entries_read : (is : List ℕ) (rs : List (List ℕ)) (before after : List ℕ) (at floor : ℕ) → letter ≡ before ++ (entries is rs ++ after)
      → length before ≡ at → length rs ≡ length is → Rising floor n is → AtMost 16384 (map length rs) → Read at floor is rs
  unfolding places_from end_from entries entries_order record_order
  entries_read [] [] before after at floor e l c u s =
      record { indexes = refl; lengths = refl; records = refl; end = omega arith; passes = tt }
  entries_read [] (r ∷ rs) before after at floor e l c u s = absurd (omega arith)
  entries_read (i ∷ is) [] before after at floor e l c u s = absurd (omega arith)
  entries_read (i ∷ is) (r ∷ rs) before after at floor e l c u s =
      let g : letter ≡ before ++ (one i r ++ (entries is rs ++ after)) = e ∙ simp append_assoc in
      let h : letter ≡ before ++ one i r ++ (entries is rs ++ after) = g ∙ sym (append_assoc before (one i r) (entries is rs ++ after)) in
      let x : index_at letter at ≡ i = one_index letter before _ i r at g l (omega (arith, u.1)) in
      let y : stated_at letter at ≡ length r = one_stated letter before _ i r at g l s.0 in
      let z : record_at letter at ≡ r = one_record letter before _ i r at g l s.0 in
      let w : behind_at letter at ≤ length letter = one_within letter before _ i r at g l s.0 in
      let v : Rising (suc (index_at letter at)) n is = rw x u.2 in
      let t = entries_read is rs (before ++ one i r) after (behind_at letter at) (suc (index_at letter at)) h
      (one_behind letter before _ i r at g l s.0) (omega arith) v s.1 in
      record {
        indexes = ap₂ (λ (k : ℕ) (ks : List ℕ). k ∷ ks) x t.indexes;
        lengths = ap₂ (λ (k : ℕ) (ks : List ℕ). k ∷ ks) y t.lengths;
        records = ap₂ (λ (k : List ℕ) (ks : List (List ℕ)). k ∷ ks) z t.records;
        end = t.end ∙ omega (arith, y, one_length i r, length-append (one i r) (entries is rs));
        passes = (omega arith, (omega (arith, u.0), (omega (arith, u.1), (omega (arith, s.0), (w, t.passes)))));
      }

-- ---- the letter

-- what a letter is put together from: a request for leaves of a log of n, with one record for each index and as many digests as it asks for
pub record Parts (size n : ℕ) (is : List ℕ) (rs digests : List (List ℕ)) : Type 0 where
  pub size_fits : size < 2 ^ 64
  pub few_leaves : n ≤ 2 ^ 32
  pub request : Request n is
  pub one_each : length rs ≡ length is
  pub short : AtMost 16384 (map length rs)
  pub wide : Each 32 digests
  pub exact : length digests ≡ digest_count n is

module _ {size n : ℕ} {is : List ℕ} {rs digests : List (List ℕ)} (p : Parts size n is rs digests) where
  abbrev letter : List ℕ
  letter = passage_bytes size is rs digests

  abbrev first : List ℕ
  first = be 8 size ++ be 2 (length is)

  first_length : length first ≡ 10
  first_length = simp (length-append, be_length)

  grouped : letter ≡ first ++ (entries is rs ++ joined digests)
  unfolding passage_bytes
  grouped = append_assoc first (entries is rs) (joined digests)

  pub size_read : size_in letter ≡ size
  unfolding size_in
  size_read =
      let e : letter ≡ [] ++ be 8 size ++ (be 2 (length is) ++ (entries is rs ++ joined digests)) = grouped ∙ simp append_assoc in
      ap (λ (l : List ℕ). number (part 0 8 l)) e ∙ number_field 0 8 size [] _ refl p.size_fits

  pub count_read : count_in letter ≡ length is
  unfolding count_in
  count_read =
      ap (λ (l : List ℕ). number (part 8 2 l)) grouped
      ∙ number_field 8 2 (length is) (be 8 size) _ (be_length 8 size) (omega (arith, p.request.few))

  read : Read n letter p.few_leaves 10 0 is rs
  read =
      entries_read n letter p.few_leaves is rs first (joined digests) 10 0 grouped first_length p.one_each p.request.rising p.short

  pub indexes_read : indexes_in letter ≡ is
  unfolding indexes_in places
  indexes_read = ap (λ (k : ℕ). map (index_at letter) (places_from letter 10 k)) count_read ∙ read.indexes

  pub lengths_read : lengths_in letter ≡ map length rs
  unfolding lengths_in places
  lengths_read = ap (λ (k : ℕ). map (stated_at letter) (places_from letter 10 k)) count_read ∙ read.lengths

  pub records_read : records_in letter ≡ rs
  unfolding records_in places
  records_read = ap (λ (k : ℕ). map (record_at letter) (places_from letter 10 k)) count_read ∙ read.records

  end_read : end_in letter ≡ 10 + length (entries is rs)
  unfolding end_in
  end_read = ap (end_from letter 10) count_read ∙ read.end

  pub digests_read : digests_in (digest_count n is) letter ≡ digests
  unfolding digests_in
  digests_read =
      let front = first ++ entries is rs in
      let m : length front ≡ 10 + length (entries is rs) = length-append first (entries is rs) ∙ omega (arith, first_length) in
      let e : letter ≡ front ++ (joined digests ++ []) =
      grouped ∙ sym (append_assoc first (entries is rs) (joined digests)) ∙ sym (ap (λ (g : List ℕ). front ++ g) (append-nil (joined digests))) in
      ap₂ (λ (at k : ℕ). rows_from 32 at k letter) end_read (sym p.exact)
      ∙ ap (rows_from 32 (10 + length (entries is rs)) (length digests)) e
      ∙ digests_joined digests front [] (10 + length (entries is rs)) m p.wide

  pub passage_length : length letter ≡ end_in letter + 32 * digest_count n is
  passage_length =
      ap length grouped
      ∙ omega (
        arith,
        length-append first (entries is rs ++ joined digests),
        length-append (entries is rs) (joined digests),
        first_length,
        joined_length digests p.wide,
        p.exact,
        end_read,
      )

  pub fields_pass : Passes (fields_order size n letter)
  unfolding fields_order
  fields_pass =
      let each : Passes (entries_order n letter 10 0 (count_in letter)) = rw count_read read.passes in
      let long = passage_length ∙ ap (λ (js : List ℕ). end_in letter + 32 * digest_count n js) (sym indexes_read) ∙ sym (exact_end letter n) in
      let whole = pass_whole (entries_order n letter 10 0 (count_in letter)) (7 if length letter is_not exact_for n letter ∷ []) each (long, tt) in (
        omega (arith, passage_length, end_read),
        (size_read, (omega (arith, count_read, p.request.some), (omega (arith, count_read, p.request.few), whole))),
      )
