-- What the calls of `src/lib.rt` answer: the number of the table of RULES 2, and the value beside it.
use Rattle.std.specs.Prelude.{ℕ, Result}
use Rattle.refusals.specs.declared.Refused.{Refused}
use Rattle.refusals.specs.Numbers.{outcome_by}

-- 0 for done, or the number of the refusal; and the value, which is 0 on a refusal
pub record Answer : Type 0 where
  pub number : ℕ
  pub value : ℕ

abbrev pub done : ℕ → Answer
done v = record { number = 0; value = v }

abbrev pub refused : ℕ → Answer
refused k = record { number = k; value = 0 }

-- a size, a position or a leaf count; or why there is none
abbrev pub answered : Result ℕ Refused → Answer
answered r = outcome_by refused done r
