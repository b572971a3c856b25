-- The panel's programs read at most 4,459,571 bytes, and a key before them, since a longer letter gets the same number.
use mathlib.Core.Logic.{◌≢◌, by_cases}
use mathlib.Core.Path.{◌≡◌, refl, sym, ap, ◌∙◌}
use mathlib.Core.List.{List, [], ◌∷◌, ◌++◌}
use Prim.Native.Nat.{ℕ, zero, suc, ◌+◌, ◌*◌, ◌≤◌}
use native.Mathlib.Decide.{ℕ_discrete, dec_lt}
use native.Mathlib.Omega.{arith}
use borrow.Author.Tests.{le-ltb}
use lib.ListN.{length, take, drop, length-drop}
use lib.Seq.{append_snoc, length-take-le, take_all, take-add, drop_at}
use Rattle.order.specs.Order.{Refusal, ◌if◌, ◌is_not◌, ◌under◌, ◌above◌, verdict, first_number}
use Rattle.order.proofs.Laws.{clear, first_early, late, first_is, first_next, first_both, verdict_append, verdict_done, number_is}
use Rattle.wire.specs.Numbers.{number}
use Rattle.wire.specs.Slices.{part}
use Rattle.wire.proofs.Parts.{part_take}
use Rattle.digest.proofs.UnderKey.{under_front}
use Rattle.shape.specs.Sizes.{leaves}
use Rattle.letter.specs.Bytes.{size_in}
use Rattle.passage.specs.Bytes.{count_in, index_at, stated_at, behind_at, end_in, indexes_in}
use Rattle.passage.specs.Checking.{record_order, entries_order, exact_for, fields_order, from7}
use Rattle.passage.proofs.Digests.{count_few}
use Rattle.passage_fields.proofs.Places.{exact_end}
use Rattle.passage_fields.proofs.Numbered.{entries_numbered}
use Rattle.passage_fields.proofs.Entries.{entries_near}
use Rattle.passage_checker.specs.Outcome.{CheckOutcome, check_refused, check_done, check_order, check_outcome, judged, judged_keyed}

-- the front of a letter has its fields
module _ (k : ℕ) (l : List ℕ) (q : k ≤ length l) where
  size_front : 10 ≤ k → size_in (take k l) ≡ size_in l
  unfolding size_in
  size_front p = ap number (part_take 0 8 k l (omega arith) q)

  count_front : 10 ≤ k → count_in (take k l) ≡ count_in l
  unfolding count_in
  count_front p = ap number (part_take 8 2 k l (omega arith) q)

  index_front : (at : ℕ) → at + 12 ≤ k → index_at (take k l) at ≡ index_at l at
  unfolding index_at
  index_front at p = ap number (part_take at 8 k l (omega arith) q)

  stated_front : (at : ℕ) → at + 12 ≤ k → stated_at (take k l) at ≡ stated_at l at
  unfolding stated_at
  stated_front at p = ap number (part_take (at + 8) 4 k l (omega arith) q)

-- ---- what follows the records

-- a number, or 7 where there is none
abbrev or_seven : ℕ → ℕ
or_seven zero = 7
or_seven (suc m) = suc m

or_seven_lem : (m : ℕ) → m ≢ 0 → m ≡ or_seven m
or_seven_lem zero h = absurd (h refl)
or_seven_lem (suc m) h = refl

-- a letter longer than the longest: its records refuse it, or its length does
module _ (n : ℕ) (x : List ℕ) (long : 4459531 ≤ length x) (few : count_in x ≤ 256) where
  abbrev records : List Refusal
  records = entries_order n x 10 0 (count_in x)

  too_long : first_number records ≡ 0 → length x ≢ exact_for n x
  unfolding end_in
  too_long z e =
      let p = clear records (entries_numbered n x 10 0 (count_in x)) z in
      omega (arith, entries_near n x 10 0 (count_in x) p, exact_end x n, count_few n (indexes_in x))

  records_or_7 : (later : List Refusal) → first_number (records ++ (7 if length x is_not exact_for n x ∷ later)) ≡ or_seven (first_number records)
  unfolding first_number
  records_or_7 later =
      by_cases (ℕ_discrete (first_number records) 0)
      (λ z.
      sym (late (λ m. m) records (7 if length x is_not exact_for n x ∷ later) 0 (clear records (entries_numbered n x 10 0 (count_in x)) z)
      (first_is 7 (7 if length x is_not exact_for n x ∷ later) (λ e. absurd (too_long z e))))
      ∙ ap or_seven (sym z))
      (λ z. sym (first_early records _ z refl) ∙ or_seven_lem (first_number records) z)

-- what stands before the records, but for the head
abbrev head_order : ℕ → List ℕ → List Refusal
head_order size x = 8 if size_in x is_not size ∷ 19 if count_in x under 1 ∷ 19 if count_in x above 256 ∷ []

fields_or_7 : (size n : ℕ) (x : List ℕ) → 4459531 ≤ length x → (later : List Refusal)
    → first_number (fields_order size n x ++ later) ≡ verdict (λ m. m) (head_order size x) (or_seven (first_number (entries_order n x 10 0 (count_in x))))
unfolding fields_order first_number
fields_or_7 size n x long later =
    let exact = 7 if length x is_not exact_for n x in
    let tail = entries_order n x 10 0 (count_in x) ++ (exact ∷ []) ++ later in
    first_next 7 (length x under 10) (head_order size x ++ tail) (omega arith)
    ∙ verdict_append (λ m. m) (head_order size x) tail 0
    ∙ verdict_done (λ m. m) (head_order size x)
    (λ p. ap first_number (append_snoc (entries_order n x 10 0 (count_in x)) exact later) ∙ records_or_7 n x long p.1.1.0 later)

-- ---- a letter longer than the longest, and its front

module _ (l : List ℕ) (long : 4459531 ≤ length l) where
  abbrev front : List ℕ
  front = take 4459531 l

  front_long : length front ≡ 4459531
  front_long = length-take-le 4459531 l long

  same_records : (n at floor k : ℕ) → at + 16396 * k ≤ 4197386
      → first_number (entries_order n front at floor k) ≡ first_number (entries_order n l at floor k)
  unfolding entries_order record_order
  same_records n at floor zero h = refl
  same_records n at floor (suc k) h =
      let a = front_long in
      first_next 7 _ _ (omega arith)
      ∙ rw (index_front 4459531 l long at (omega arith), stated_front 4459531 l long at (omega arith))
      (first_both 19 _ _ _ λ b. first_both 5 _ _ _ λ c. first_both 3 _ _ _ λ d.
      first_next 7 _ _ (omega arith)
      ∙ same_records n (behind_at l at) (suc (index_at l at)) k (omega arith)
      ∙ sym (first_next 7 _ _ (omega arith)))
      ∙ sym (first_next 7 _ _ (omega arith))

  same_fields : (size n : ℕ) (xs ys : List Refusal) → first_number (fields_order size n front ++ xs) ≡ first_number (fields_order size n l ++ ys)
  same_fields size n xs ys =
      fields_or_7 size n front (omega (arith, front_long)) xs
      ∙ rw (size_front 4459531 l long (omega arith), count_front 4459531 l long (omega arith))
      (verdict_done (λ m. m) (head_order size l) (λ p. ap or_seven (same_records n 10 0 (count_in l) (omega (arith, p.1.1.0)))))
      ∙ sym (fields_or_7 size n l long ys)

module _ (digest : List ℕ → List ℕ) where
  check_number_lem : (size : ℕ) (root l : List ℕ) → (check_outcome digest size root l).number ≡ first_number (check_order digest size root l)
  unfolding check_outcome
  check_number_lem size root l =
      number_is (λ (o : CheckOutcome). o.number) check_refused (check_order digest size root l) (check_done l) (λ n. refl) refl refl

  front_number : (size : ℕ) (root l : List ℕ) → 4459531 ≤ length l
      → (check_outcome digest size root (take 4459531 l)).number ≡ (check_outcome digest size root l).number
  unfolding check_order from7
  front_number size root l p =
      check_number_lem size root (take 4459531 l)
      ∙ first_both 1 _ _ _ (λ a. first_both 12 _ _ _ λ b. same_fields l p size (leaves size) _ _)
      ∙ sym (check_number_lem size root l)

  -- RULES 12: it reads at most 4,459,571 bytes, since a longer letter gets the same number
  pub front_judged : (input : List ℕ) → judged digest (take 4459571 input) ≡ judged digest input
  unfolding judged
  front_judged input =
      by_cases (dec_lt 4459571 (length input))
      (λ h.
      let k : length (take 4459571 input) ≡ 4459571 = length-take-le 4459571 input (omega arith) in
      let n : 4459531 ≤ length (drop 40 input) = rw length-drop (omega arith) in
      let d : drop 40 (take 4459571 input) ≡ take 4459531 (drop 40 input) =
      ap (drop 40) (take-add 40 4459531 input) ∙ drop_at (take 40 input) _ 40 (length-take-le 40 input (omega arith)) in
      rw (
        le-ltb (length (take 4459571 input)) 40 (omega arith),
        le-ltb (length input) 40 (omega arith),
        judged,
        part_take 0 8 4459571 input (omega arith) (omega arith),
        part_take 8 32 4459571 input (omega arith) (omega arith),
        d,
      )
      (front_number (number (part 0 8 input)) (part 8 32 input) (drop 40 input) n))
      (λ h. ap (judged digest) (take_all 4459571 input (omega arith)))

-- with a key before it, at most 4,459,603
pub front_keyed : (input : List ℕ) → judged_keyed (take 4459603 input) ≡ judged_keyed input
front_keyed input = under_front judged 4459571 front_judged input
