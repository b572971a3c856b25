-- The panel's programs read at most 17,469 bytes, and a key before them, since a longer letter gets the same number.
use mathlib.Core.Path.{◌≡◌, refl, sym, ap, ◌∙◌}
use mathlib.Core.Logic.{by_cases}
use mathlib.Core.List.{List, ◌∷◌, ◌++◌}
use Prim.Native.Nat.{ℕ, ◌+◌, ◌*◌, ◌^◌, ◌≤◌}
use native.Mathlib.Decide.{dec_lt}
use native.Mathlib.Omega.{arith}
use borrow.Author.Tests.{le-ltb}
use lib.ListN.{length, take, drop, length-drop}
use lib.Seq.{length-take-le, take_all, take-add, drop_at}
use Rattle.digest.proofs.UnderKey.{under_front}
use Rattle.order.specs.Order.{Refusal, ◌if◌, ◌is_not◌, first_number}
use Rattle.order.proofs.Laws.{first_is, first_next, first_both, number_is}
use Rattle.wire.specs.Numbers.{number}
use Rattle.wire.specs.Slices.{part}
use Rattle.wire.proofs.Parts.{part_take}
use Rattle.shape.specs.Sizes.{leaves}
use Rattle.shape.proofs.Counting.{counts_known}
use Rattle.letter.specs.Bytes.{size_in, index_in, stated_in}
use Rattle.letter.specs.Checking.{behind_order, fields_order, from7}
use Rattle.letter.proofs.ItemsOf.{count_at_most}
use Rattle.letter_checker.specs.Outcome.{CheckOutcome, check_refused, check_done, check_order, check_outcome, judged, judged_keyed}

-- the front of a letter has its fields
module _ (k : ℕ) (l : List ℕ) (p : 20 ≤ k) (q : k ≤ length l) where
  size_front : size_in (take k l) ≡ size_in l
  unfolding size_in
  size_front = ap number (part_take 0 8 k l (omega arith) q)

  index_front : index_in (take k l) ≡ index_in l
  unfolding index_in
  index_front = ap number (part_take 8 8 k l (omega arith) q)

  stated_front : stated_in (take k l) ≡ stated_in l
  unfolding stated_in
  stated_front = ap number (part_take 16 4 k l (omega arith) q)

-- two letters with the same fields, both longer than the longest
module _ (size n : ℕ) (most : n ≤ 2 ^ 32) (l m : List ℕ) (es : size_in l ≡ size_in m) (ei : index_in l ≡ index_in m) (et : stated_in l ≡ stated_in m)
    (p : 17429 ≤ length l) (q : 17429 ≤ length m) where
  too_long : (x : List ℕ) (k s : ℕ) (later : List Refusal) → 17429 ≤ length x → k ≤ 32 → s ≤ 16384
      → 7 ≡ first_number (7 if length x is_not (20 + s + 32 * k) ∷ later)
  too_long x k s later h a b = first_is 7 _ (λ e. absurd (omega arith))

  same_fields : (xs ys : List Refusal) → first_number (fields_order size n l ++ xs) ≡ first_number (fields_order size n m ++ ys)
  unfolding fields_order behind_order
  same_fields xs ys =
      first_next 7 _ _ (omega arith)
      ∙ rw (es, ei, et)
      (first_both 8 _ _ _ λ a. first_both 5 _ _ _ λ b. first_both 3 _ _ _ λ c.
      let few = count_at_most n (index_in m) most in
      sym (too_long l _ _ _ p few c) ∙ too_long m _ _ _ q few c)
      ∙ sym (first_next 7 _ _ (omega arith))

module _ (digest : List ℕ → List ℕ) where
  check_number_lem : (size : ℕ) (root l : List ℕ) → (check_outcome digest size root l).number ≡ first_number (check_order digest size root l)
  unfolding check_outcome
  check_number_lem size root l =
      number_is (λ (o : CheckOutcome). o.number) check_refused (check_order digest size root l) (check_done l) (λ n. refl) refl refl

  -- a letter longer than the longest, and its front
  front_number : (size : ℕ) (root l : List ℕ) → 17429 ≤ length l
      → (check_outcome digest size root (take 17429 l)).number ≡ (check_outcome digest size root l).number
  unfolding check_order from7
  front_number size root l p =
      let m = take 17429 l in
      check_number_lem size root m
      ∙ first_both 1 _ _ _ (λ a. first_both 12 _ _ _ λ b.
      same_fields size (leaves size) (counts_known size a).most m l
      (size_front 17429 l (omega arith) p) (index_front 17429 l (omega arith) p) (stated_front 17429 l (omega arith) p)
      (omega (arith, length-take-le 17429 l p)) p _ _)
      ∙ sym (check_number_lem size root l)

  -- RULES 11: it reads at most 17,469 bytes, since a longer letter gets the same number
  pub front_judged : (input : List ℕ) → judged digest (take 17469 input) ≡ judged digest input
  unfolding judged
  front_judged input =
      by_cases (dec_lt 17469 (length input))
      (λ h.
      let k : length (take 17469 input) ≡ 17469 = length-take-le 17469 input (omega arith) in
      let n : 17429 ≤ length (drop 40 input) = rw length-drop (omega arith) in
      let d : drop 40 (take 17469 input) ≡ take 17429 (drop 40 input) =
      ap (drop 40) (take-add 40 17429 input) ∙ drop_at (take 40 input) _ 40 (length-take-le 40 input (omega arith)) in
      rw (
        le-ltb (length (take 17469 input)) 40 (omega arith),
        le-ltb (length input) 40 (omega arith),
        judged,
        part_take 0 8 17469 input (omega arith) (omega arith),
        part_take 8 32 17469 input (omega arith) (omega arith),
        d,
      )
      (front_number (number (part 0 8 input)) (part 8 32 input) (drop 40 input) n))
      (λ h. ap (judged digest) (take_all 17469 input (omega arith)))

-- with a key before it, at most 17,501
pub front_keyed : (input : List ℕ) → judged_keyed (take 17501 input) ≡ judged_keyed input
front_keyed input = under_front judged 17469 front_judged input
