-- The numbers of RULES 2, each by the name of its refusal, and what is read off an answer.
use Rattle.std.specs.Prelude.{ℕ, Result, Ok, Err}
use Rattle.refusals.specs.declared.Refused.{Refused}
use Rattle.refusals.specs.declared.Refused.TheVariants.{NoSuchSize, LogFull, RecordTooLong, NodesTooShort, NoSuchLeaf, OutputTooShort, LetterLength, OtherSize, OtherRoot}
use Rattle.refusals.specs.declared.Refused.TheVariants.{EmptyLog, NotANode, RootLength, OtherRecord, BrokenNode, WrongLengths, PartsTooLong, OtherDigest, NotRising, KeyLength}

-- the number of a refusal: 15 is struck
abbrev pub number_of : Refused → ℕ
number_of NoSuchSize = 1
number_of LogFull = 2
number_of RecordTooLong = 3
number_of NodesTooShort = 4
number_of NoSuchLeaf = 5
number_of OutputTooShort = 6
number_of LetterLength = 7
number_of OtherSize = 8
number_of OtherRoot = 9
number_of EmptyLog = 10
number_of NotANode = 11
number_of RootLength = 12
number_of OtherRecord = 13
number_of BrokenNode = 14
number_of WrongLengths = 16
number_of PartsTooLong = 17
number_of OtherDigest = 18
number_of NotRising = 19
number_of KeyLength = 24

-- the number that a call answers: 0 where it is done
abbrev pub number_in : {T : Type 0} → Result T Refused → ℕ
number_in (Ok value) = 0
number_in (Err why) = number_of why

-- an outcome, by what a refusal with a number is and what a value that is done is
abbrev pub outcome_by : {T X : Type 0} → (ℕ → X) → (T → X) → Result T Refused → X
outcome_by refused done (Ok value) = done value
outcome_by refused done (Err why) = refused (number_of why)
