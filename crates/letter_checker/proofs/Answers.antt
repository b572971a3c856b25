-- What a check answers once the letter is taken apart: the refusal of its fields, 9, or done.
use mathlib.Core.Path.{◌≡◌, refl, sym, ap, ◌∙◌}
use mathlib.Core.List.{List, [], ◌∷◌}
use Prim.Native.Nat.{ℕ}
use native.Mathlib.Omega.{arith}
use lib.ListN.{length}
use Rattle.std.specs.Prelude.{Result, Ok, Err}
use Rattle.refusals.specs.declared.Refused.{Refused}
use Rattle.refusals.specs.Numbers.{number_of}
use Rattle.refusals.proofs.Laws.{number_above}
use Rattle.order.specs.Order.{◌if◌, ◌is◌, ◌is_not◌, verdict}
use Rattle.order.proofs.Laws.{refuses, passes, early, late}
use Rattle.wire.specs.Slices.{differ}
use Rattle.shape.specs.Sizes.{count_answer, leaves}
use Rattle.shape.specs.Answers.{answered}
use Rattle.shape.proofs.Counting.{counts_leaves}
use Rattle.letter.specs.declared.Fields.{Fields}
use Rattle.letter.specs.Items.{worked_root}
use Rattle.letter.specs.Checking.{taken_apart, fields_order, fields_outcome, from7}
use Rattle.letter.proofs.Apart.{Apart, apart_refused}
use Rattle.letter_checker.specs.Outcome.{CheckOutcome, checked, check_refused, check_told, check_done, check_order, check_outcome}

module _ (digest : List ℕ → List ℕ) (size : ℕ) (root letter : List ℕ) (counted : (count_answer size).number ≡ 0) (wide : length root ≡ 32) where
  -- past 1 and 12
  from_7 : {o : CheckOutcome} → o ≡ verdict check_refused (from7 digest size (leaves size) root letter) (check_done letter)
      → o ≡ check_outcome digest size root letter
  unfolding check_outcome check_order
  from_7 f =
      late check_refused (1 if (count_answer size).number is 1 ∷ 12 if length root is_not 32 ∷ []) (from7 digest size (leaves size) root letter)
      (check_done letter) ((λ z. omega arith), (wide, tt)) f

  pub fields_refuse : {r : Result Fields Refused} {why : Refused} → taken_apart r ≡ fields_outcome size (leaves size) letter → r ≡ Err why
      → check_refused (number_of why) ≡ check_outcome digest size root letter
  unfolding from7
  fields_refuse {why = why} e w =
      let n = apart_refused size (leaves size) letter e w in
      from_7 (early check_refused (fields_order size (leaves size) letter) _ (check_done letter) (ap check_refused n)
      (λ z. absurd (omega (arith, number_above why, n, z))))

  module _ {f : Fields} (a : Apart size (leaves size) letter f) {made : List ℕ} (w : made ≡ worked_root digest (leaves size) letter) where
    differ_worked : differ root made ≡ differ root (worked_root digest (leaves size) letter)
    differ_worked = ap (differ root) w

    pub root_refuses : (differ root made ≡ 0 → ⊥) → check_refused 9 ≡ check_outcome digest size root letter
    unfolding from7
    root_refuses z =
        from_7 (late check_refused (fields_order size (leaves size) letter) _ (check_done letter) a.passes
        (refuses 9 check_refused _ (check_done letter) refl (λ y. absurd (z (differ_worked ∙ y)))))

    pub all_pass : differ root made ≡ 0 → check_told f ≡ check_outcome digest size root letter
    unfolding from7
    all_pass z =
        from_7 (late check_refused (fields_order size (leaves size) letter) _ (check_done letter) a.passes
        (passes check_refused _ (check_done letter) (λ i. record { number = 0; index = a.index i; start = a.start i; length = a.long i })
        (sym differ_worked ∙ z, tt)))

-- the refusal of the letter's fields, by what the code knows of its two calls
pub letter_refused : (digest : List ℕ → List ℕ) (size : ℕ) (root letter : List ℕ) {n : ℕ} {counted : Result ℕ Refused} {r : Result Fields Refused}
    {why : Refused} → answered counted ≡ count_answer size → counted ≡ Ok n → length root ≡ 32 → taken_apart r ≡ fields_outcome size n letter
    → r ≡ Err why → checked (Err why) ≡ check_outcome digest size root letter
letter_refused digest size root letter e l wide t w =
    let k = counts_leaves e l in
    fields_refuse digest size root letter k.number wide (t ∙ ap (λ (n : ℕ). fields_outcome size n letter) (sym k.value)) w
