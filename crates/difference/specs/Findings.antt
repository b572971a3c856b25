-- What is found, and its number. A refusal finds nothing.
use Rattle.std.specs.Prelude.{ℕ}
use Rattle.difference.specs.declared.Finding.{Finding as Found}

pub data Finding : Type 0 where
  Nothing Same Records Pair : Finding

-- what is found, by the answer's own case
abbrev pub finding_of : Found → Finding
finding_of Found.Same = Same
finding_of Found.Records = Records
finding_of Found.Pair = Pair

-- what is found, as a number for those who have no names
abbrev pub finding_number : Finding → ℕ
finding_number Nothing = 0
finding_number Same = 1
finding_number Records = 2
finding_number Pair = 3
