-- Laws of the numbers: a refusal's number is above 0 and tells it from every other, and so does what is read off an answer.
use mathlib.Core.Path.{◌≡◌, refl, sym, ap, ◌∙◌}
use Prim.Native.Nat.{ℕ, ◌<◌}
use native.Mathlib.Omega.{arith}
use lib.Dec.{eqb}
use Rattle.std.specs.Prelude.{if◌then◌else◌, Result, Ok, Err}
use Rattle.refusals.specs.declared.Refused.{Refused}
use Rattle.refusals.specs.declared.Refused.TheVariants.{NoSuchSize, LogFull, RecordTooLong, NodesTooShort, NoSuchLeaf, OutputTooShort, LetterLength, OtherSize, OtherRoot}
use Rattle.refusals.specs.declared.Refused.TheVariants.{EmptyLog, NotANode, RootLength, OtherRecord, BrokenNode, WrongLengths, PartsTooLong, OtherDigest, NotRising, KeyLength}
use Rattle.refusals.specs.Numbers.{number_of, outcome_by}

pub number_above : (why : Refused) → 0 < number_of why
number_above NoSuchSize = omega arith
number_above LogFull = omega arith
number_above RecordTooLong = omega arith
number_above NodesTooShort = omega arith
number_above NoSuchLeaf = omega arith
number_above OutputTooShort = omega arith
number_above LetterLength = omega arith
number_above OtherSize = omega arith
number_above OtherRoot = omega arith
number_above EmptyLog = omega arith
number_above NotANode = omega arith
number_above RootLength = omega arith
number_above OtherRecord = omega arith
number_above BrokenNode = omega arith
number_above WrongLengths = omega arith
number_above PartsTooLong = omega arith
number_above OtherDigest = omega arith
number_above NotRising = omega arith
number_above KeyLength = omega arith

-- the refusal with a number
named : ℕ → Refused
named n =
    if eqb n 1 then NoSuchSize else
    (if eqb n 2 then LogFull else
    (if eqb n 3 then RecordTooLong else
    (if eqb n 4 then NodesTooShort else
    (if eqb n 5 then NoSuchLeaf else
    (if eqb n 6 then OutputTooShort else
    (if eqb n 7 then LetterLength else
    (if eqb n 8 then OtherSize else
    (if eqb n 9 then OtherRoot else
    (if eqb n 10 then EmptyLog else
    (if eqb n 11 then NotANode else
    (if eqb n 12 then RootLength else
    (if eqb n 13 then OtherRecord else
    (if eqb n 14 then BrokenNode else
    (if eqb n 16 then WrongLengths else
    (if eqb n 17 then PartsTooLong else
    (if eqb n 18 then OtherDigest else
    (if eqb n 19 then NotRising else KeyLength)))))))))))))))))

named_is : (why : Refused) → named (number_of why) ≡ why
unfolding named
named_is NoSuchSize = refl
named_is LogFull = refl
named_is RecordTooLong = refl
named_is NodesTooShort = refl
named_is NoSuchLeaf = refl
named_is OutputTooShort = refl
named_is LetterLength = refl
named_is OtherSize = refl
named_is OtherRoot = refl
named_is EmptyLog = refl
named_is NotANode = refl
named_is RootLength = refl
named_is OtherRecord = refl
named_is BrokenNode = refl
named_is WrongLengths = refl
named_is PartsTooLong = refl
named_is OtherDigest = refl
named_is NotRising = refl
named_is KeyLength = refl

pub same_number : (a b : Refused) → number_of a ≡ number_of b → a ≡ b
same_number a b e = sym (named_is a) ∙ ap named e ∙ named_is b

-- an outcome tells two answers apart, where it tells their numbers and two values
module _ {T X : Type 0} (refused : ℕ → X) (done : T → X) (number : X → ℕ) (is : (n : ℕ) → number (refused n) ≡ n)
    (zero : (x : T) → number (done x) ≡ 0) (one : (x y : T) → done x ≡ done y → x ≡ y) where
  pub outcome_apart : (a b : Result T Refused) → outcome_by refused done a ≡ outcome_by refused done b → a ≡ b
  outcome_apart (Ok x) (Ok y) e = ap Ok (one x y e)
  outcome_apart (Ok x) (Err b) e = absurd (omega (arith, number_above b, is (number_of b), zero x, ap number e))
  outcome_apart (Err a) (Ok y) e = absurd (omega (arith, number_above a, is (number_of a), zero y, ap number e))
  outcome_apart (Err a) (Err b) e = ap Err (same_number a b (sym (is (number_of a)) ∙ ap number e ∙ is (number_of b)))
